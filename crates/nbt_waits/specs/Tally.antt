-- What came of requests, counted; and as what a refusal is logged that came late (our profile).
use Rattle.std.specs.Prelude.{ℕ, ◌+◌, ◌-◌, ◌^◌, min, Option, Some, None}
use Rattle.nbt_server.specs.declared.outcome.Outcome.{Outcome}
use Rattle.nbt_server.specs.declared.outcome.Outcome.TheVariants.{Refused}
use Rattle.nbt_server.specs.declared.outcome.Refusal.{Refusal}
use Rattle.nbt_server.specs.declared.outcome.Refusal.TheVariants as why
use Rattle.nbt_waits.specs.declared.note.Asked.{Asked}
use Rattle.nbt_waits.specs.declared.note.Asked.TheVariants as came
use Rattle.nbt_waits.specs.declared.note.Note.{Note}
use Rattle.nbt_waits.specs.declared.tally.AskTally.{AskTally}

-- one more, of 2^64 - 1 at most
abbrev pub one_more : ℕ → ℕ
one_more count = min (count + 1) (2 ^ 64 - 1)

abbrev pub nothing_counted : AskTally
nothing_counted = record { waits = 0; confirmed = 0; reached = 0; refused = 0; told = 0; granted = 0; not_own = 0; full = 0; unanswered = 0; lost = 0 }

-- each in one row
abbrev pub counted : Asked → AskTally → AskTally
counted (came.Waits addr) all = record all { waits = one_more all.waits }
counted (came.Confirmed seconds) all = record all { confirmed = one_more all.confirmed }
counted came.Reached all = record all { reached = one_more all.reached }
counted (came.Refused holder) all = record all { refused = one_more all.refused }
counted (came.Told seconds) all = record all { told = one_more all.told }
counted came.Granted all = record all { granted = one_more all.granted }
counted came.NotOwn all = record all { not_own = one_more all.not_own }
counted came.Full all = record all { full = one_more all.full }
counted came.Unanswered all = record all { unanswered = one_more all.unanswered }
counted came.Lost all = record all { lost = one_more all.lost }

-- what the server did that refused it so
abbrev pub refused_as : Note → Refusal → Outcome
refused_as note why = Refused (record { name = note.name; kind = note.kind; addr = note.addr }) why

-- A request that was refused after it waited is logged as one that the server refused at once.
abbrev pub refusal_by : Asked → Note → Option Outcome
refusal_by (came.Refused holder) note = Some (refused_as note (why.Active holder))
refusal_by came.NotOwn note = Some (refused_as note why.NotOwn)
refusal_by came.Full note = Some (refused_as note why.ClientFull)
refusal_by other note = None
