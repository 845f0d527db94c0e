-- What watches a name server over a whole run: which turns it is shown, and what it made of them (our profile).
use Rattle.std.specs.Prelude.{◌≡◌, ◌<◌, ◌⊎◌, ℕ, true, List, [], ◌∷◌, ◌++◌, length, Option, Some, None}
use Rattle.std.specs.List.{AllByRecursion}
use Rattle.nbt_port.specs.Clocks.{MachineTells}
use Rattle.nbt_port.specs.PortCalls.{Chain}
use Rattle.nbt_port.specs.declared.ahead.Ahead.{Ahead}
use Rattle.nbt_port.specs.declared.fault.Fault.{Fault}
use Rattle.nbt_server.specs.Outcomes.{has_reply}
use Rattle.nbt_server.specs.Serving.{ServerValue}
use Rattle.nbt_log.specs.declared.entry.Entry.{Entry}
use Rattle.nbt_serve.specs.Serving.{Turn, Turns, IsLogged}
use Rattle.nbt_serve.specs.Waiting.{batch}
use Rattle.nbt_nbns.specs.Journaling.{Journals}
use Rattle.nbt_nbns.specs.Places.{FileValue, Stays}
use Rattle.nbt_nbns.specs.Renewing.{NotesNames}
use Rattle.nbt_nbns.specs.Running.{Nbns, RunsNbns, NbnsFails}
use Rattle.nbt_nbns.specs.Servers.{RunsKept, KeptFails}
use Rattle.nbt_nbns.specs.declared.arguments.NbnsArguments.{NbnsArguments}
use Rattle.nbt_nbns.specs.declared.arguments.StateFolder.{StateFolder}
use Rattle.nbt_nbns.specs.declared.journal.Journal.{Journal}
use Rattle.nbt_nbns.specs.declared.staying.Shown.{Shown}

-- a server, the journal that watches it, and what was printed
pub record Watched : Type 0 where
  pub server : ServerValue
  pub journal : Journal ℕ FileValue
  pub text : Option (List ℕ)

abbrev pub watched_of : {C : Type 0} → Nbns C → Watched
watched_of here = record { server = here.served.server; journal = here.watcher; text = here.text }

-- A turn of the server. Of one that went well the log may have its entry, and of one in which a device failed none.
pub data Acts (old : ServerValue) : Option Entry → ServerValue → Type 0 where
  goes_well : (turn : Turn) (entry : Option Entry) (new : ServerValue) (does : Turns old turn new) → IsLogged does entry → Acts old entry new
  fails : (turn : Turn) (new : ServerValue) → Turns old turn new → Acts old None new

-- The server took a turn, of which the log may have this; the journal was shown this; or it was told which names are fixed from then on.
pub data Event : Type 0 where
  acted : Option Entry → Event
  was_shown : Shown → Event
  were_fixed : (capitals : List (List ℕ)) → Event

-- what each makes of them; the journal is shown the server as it is by then
pub data Happens (old : Watched) : Event → Watched → Type 0 where
  acts : (entry : Option Entry) (server : ServerValue) → Acts old.server entry server → Happens old (acted entry) (record old { server = server })
  sees : (shown : Shown) (journal : Journal ℕ FileValue) (text : Option (List ℕ)) → Journals MachineTells Stays Stays old.journal old.server shown old.text journal text
      → Happens old (was_shown shown) (record old { journal = journal; text = text })
  notes : (capitals : List (List ℕ)) (journal : Journal ℕ FileValue) → NotesNames old.journal capitals journal → Happens old (were_fixed capitals) (record old { journal = journal })

-- ---- which turns are shown

-- the entries that the log may have, by the turns, in their order
abbrev pub had : List Event → List Entry
had [] = []
had (acted None ∷ events) = had events
had (acted (Some entry) ∷ events) = entry ∷ had events
had (was_shown shown ∷ events) = had events
had (were_fixed capitals ∷ events) = had events

-- an entry, if there is one, and others
abbrev pub with_entry : Option Entry → List Entry → List Entry
with_entry None entries = entries
with_entry (Some entry) entries = entry ∷ entries

-- the entries that were shown, in their order
abbrev pub told : List Event → List Entry
told [] = []
told (acted entry ∷ events) = told events
told (was_shown shown ∷ events) = with_entry shown.entry (told events)
told (were_fixed capitals ∷ events) = told events

-- the turn has a reply
abbrev pub HasReply : Entry → Type 0
HasReply entry = has_reply entry.outcome ≡ true

-- Some of those that weren't shown yet may be left out for good: each has a reply, which was dropped; or more wait than may.
abbrev pub MayBeLeftOut : (untold left_out : List Entry) → Type 0
MayBeLeftOut untold left_out = AllByRecursion HasReply left_out ⊎ (batch < length untold)

-- An entry that is shown is one of those that weren't yet; what goes on has those behind it. Those before it are left out.
abbrev pub IsNext : Option Entry → (untold : List Entry) → (goes_on : List Entry → Type 0) → Type 0
IsNext None untold goes_on = goes_on untold
IsNext (Some entry) untold goes_on = (left_out : List Entry) × (rest : List Entry) × (untold ≡ left_out ++ entry ∷ rest) × MayBeLeftOut untold left_out × goes_on rest

-- Each entry that is shown is that of a turn before it, each once and in the order of the turns; `untold` weren't shown before, and `still` in the end.
abbrev pub IsToldInTurn : (untold : List Entry) → List Event → (still : List Entry) → Type 0
IsToldInTurn untold [] still = (left_out : List Entry) × (untold ≡ left_out ++ still) × MayBeLeftOut untold left_out
IsToldInTurn untold (acted None ∷ events) still = IsToldInTurn untold events still
IsToldInTurn untold (acted (Some entry) ∷ events) still = IsToldInTurn (untold ++ entry ∷ []) events still
IsToldInTurn untold (was_shown shown ∷ events) still = IsNext shown.entry untold (λ rest. IsToldInTurn rest events still)
IsToldInTurn untold (were_fixed capitals ∷ events) still = IsToldInTurn untold events still

-- ---- over a whole run

-- Without a state the journal is shown the entry of each turn, and nothing else.
pub record NbnsIsWatched (first last : Watched) : Type 0 where
  pub events : List Event
  pub happened : Chain Happens first events last
  pub each_told : told events ≡ had events
  pub in_turn : IsToldInTurn [] events []

-- With a state some entries are left out, or not shown yet in the end.
pub record KeptIsWatched (first last : Watched) : Type 0 where
  pub events : List Event
  pub happened : Chain Happens first events last
  pub still : List Entry
  pub in_turn : IsToldInTurn [] events still

-- So it is from the first call to the last, whichever way a server ends.
abbrev pub NbnsAreWatched : Type 0
NbnsAreWatched = (a : NbnsArguments) (old_text text : Option (List ℕ)) → (ran : RunsNbns a old_text text) → NbnsIsWatched (watched_of ran.first) (watched_of ran.last)

abbrev pub FailedNbnsAreWatched : Type 0
FailedNbnsAreWatched = (a : NbnsArguments) (old_text text : Option (List ℕ)) → (ran : NbnsFails a old_text text) → NbnsIsWatched (watched_of ran.first) (watched_of ran.last)

abbrev pub KeptAreWatched : Type 0
KeptAreWatched = (a : NbnsArguments) (state : StateFolder) (old_text text : Option (List ℕ)) → (ran : RunsKept a state old_text text) → KeptIsWatched (watched_of ran.first) (watched_of ran.last)

abbrev pub FailedKeptAreWatched : Type 0
FailedKeptAreWatched = (a : NbnsArguments) (state : StateFolder) (why : Fault) (old_text text : Option (List ℕ)) → (ran : KeptFails a state why old_text text) → KeptIsWatched (watched_of ran.first) (watched_of ran.last)
