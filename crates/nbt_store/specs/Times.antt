-- Until when the changes of a file go (our profile).
use Rattle.std.specs.Prelude.{ℕ, max, List, [], ◌∷◌}
use Rattle.nbt_store.specs.declared.change.Change.{Change}
use Rattle.nbt_store.specs.declared.change.Change.TheVariants.{Looked}
use Rattle.nbt_store.specs.declared.header.Header.{Header}
use Rattle.nbt_store.specs.declared.times.Times.{Times}
use Rattle.nbt_store.specs.Changes.{at_of}

-- with this as the last time
abbrev pub until : (at : ℕ) → Times → Times
until at times = record times { last = max times.last at }

-- after a change: the greater time, and the time of day where that was read
abbrev pub times_after : Change → Times → Times
times_after (Looked day at) times = record { last = max times.last at; seen = at; day = day }
times_after change times = until (at_of change) times

abbrev pub times_after_all : List Change → Times → Times
times_after_all [] times = times
times_after_all (change ∷ changes) times = times_after_all changes (times_after change times)

-- those of a file that was just written
abbrev pub first_times : Header → Times
first_times h = record { last = h.last; seen = h.last; day = h.day }
