-- What a name server that may keep its leases does and prints over this machine (our profile).
use Rattle.std.specs.Prelude.{◌≡◌, ◌⊎◌, ⊤, ℕ, List, [], length, Option, Some, None}
use Rattle.nbt_port.specs.Clocks.{MachineTells, SteadyTells, SteadyBegins, SystemShows, TellsAhead}
use Rattle.nbt_port.specs.Until.{until_of}
use Rattle.nbt_port.specs.declared.ahead.Ahead.{Ahead}
use Rattle.nbt_port.specs.declared.fault.Fault.{Fault}
use Rattle.nbt_port.specs.declared.fault.Fault.TheVariants as fault
use Rattle.nbt_log.specs.declared.dates.Dates.{Dates}
use Rattle.nbt_server.specs.Calls.{limited}
use Rattle.nbt_front.specs.Standing.{in_the_way}
use Rattle.nbt_nbns.specs.Running.{Nbns, Begins, KeepsUntil, KeepsNot, NbnsFails, RunsNbns, new_journal, port_at_first}
use Rattle.nbt_nbns.specs.declared.first_line.Manner.{Manner}
use Rattle.nbt_nbns.specs.declared.arguments.NbnsArguments.{NbnsArguments}
use Rattle.nbt_nbns.specs.Begin.{manner_of}
use Rattle.nbt_nbns.specs.Folders.{FolderValue, IsOpenedWith}
use Rattle.nbt_nbns.specs.Opening.{IsFoundHere}
use Rattle.nbt_serve.specs.Runs.{live_rows}
use Rattle.nbt_serve.specs.Sharing.{share_of}
use Rattle.nbt_serve.specs.Waiting.{none_waits}
use Rattle.nbt_nbns.specs.declared.opening.Told.{Told}
use Rattle.nbt_nbns.specs.declared.arguments.ServerArguments.{ServerArguments}
use Rattle.nbt_nbns.specs.declared.arguments.StateFolder.{StateFolder}
use Rattle.nbt_nbns.specs.declared.server.Folder.{Folder}
use Rattle.nbt_nbns.specs.declared.server.Folder.TheVariants.{Own, Held}
use Rattle.nbt_store.specs.declared.beginning.Begun.{Begun}

-- the moment and the time of day at which a server begins
abbrev pub dates_of : Begun → (time : ℕ) → Dates
dates_of begun time = record { moment = begun.reads; time = time }

-- What a server is at first that begins so, with this store in its folder, at this time of the monotonic clock and this time of day: it limits its clients, none of which made a change yet, and those of its leases stand in
-- the way of fixed names that are another machine's.
abbrev pub kept_at_first : NbnsArguments → Begun → (store : FolderValue) → (monotonic time : ℕ) → Option (List ℕ) → Nbns (Ahead ℕ)
kept_at_first a begun store monotonic time text = record {
  served = record {
    port = port_at_first a (in_the_way a.front.fixed (live_rows begun.server));
    clock = record { clock = monotonic; by = begun.header.ahead };
    server = limited (Some a.rows_per_client) begun.server;
    state = Some (record { store = store; header = begun.header; share = share_of a.changes_per_client; waiting = none_waits begun.header.last; teller = [] });
  };
  day = time;
  watcher = new_journal a (dates_of begun time) 0 begun.start;
  text = text;
}

-- The clocks are read, and a server begins with what is found.
pub record FindsKept (a : NbnsArguments) (state : StateFolder) (manner : Manner) : Type 0 where
  pub boot : ℕ
  pub told : Told
  pub day : ℕ
  pub begun : Begun
  pub clock_begins : SteadyBegins SystemShows boot
  pub before_told : SteadyTells SystemShows boot told.before told.before
  pub monotonic_told : SteadyTells SystemShows told.before told.monotonic told.monotonic
  pub time_told : MachineTells day told.time told.time
  pub found : IsFoundHere a.config told state.silent_after_boot begun
  pub manner_is : manner ≡ manner_of a.config.longest begun.start begun.server.last (dates_of begun told.time) (length (live_rows begun.server)) begun.reason

-- Then the file in its folder is written anew, with its header and its live leases, and it goes on from there.
pub record StartsKept (a : NbnsArguments) (state : StateFolder) (manner : Manner) (first : Nbns (Ahead ℕ)) : Type 0 where
  pub finds : FindsKept a state manner
  pub store : FolderValue
  pub opened : IsOpenedWith finds.begun.header (live_rows finds.begun.server) store
  pub first_is : first ≡ kept_at_first a finds.begun store finds.told.monotonic finds.told.time first.text

abbrev pub RunsKept : NbnsArguments → StateFolder → (old_text text : Option (List ℕ)) → Type 0
RunsKept a state old_text text = Begins (StartsKept a state) (λ first. KeepsUntil (TellsAhead (SteadyTells SystemShows)) a.strict (until_of first.served.server.last a.time) first) old_text text

abbrev pub KeptFails : NbnsArguments → StateFolder → Fault → (old_text text : Option (List ℕ)) → Type 0
KeptFails a state why old_text text = Begins (StartsKept a state) (λ first. KeepsNot (TellsAhead (SteadyTells SystemShows)) a.strict (until_of first.served.server.last a.time) why first) old_text text

-- Why a server ended early, and what it had done by then. It printed nothing where it had no port or no clock, and without a state where it was out of memory. It had begun where its port
-- failed for good, and where its store failed, unless that failed before the first line. Of its output's failure nothing is said, nor of its memory's with a state.
abbrev pub FailsKept : NbnsArguments → StateFolder → Fault → (old_text text : Option (List ℕ)) → Type 0
FailsKept a state fault.Device old_text text = KeptFails a state fault.Device old_text text
FailsKept a state fault.Store old_text text = (text ≡ old_text) ⊎ KeptFails a state fault.Store old_text text
FailsKept a state fault.NoPort old_text text = text ≡ old_text
FailsKept a state fault.NoClock old_text text = text ≡ old_text
FailsKept a state fault.Memory old_text text = ⊤
FailsKept a state fault.Output old_text text = ⊤

abbrev pub FailsBare : NbnsArguments → Fault → (old_text text : Option (List ℕ)) → Type 0
FailsBare a fault.Device old_text text = NbnsFails a old_text text
FailsBare a fault.NoPort old_text text = text ≡ old_text
FailsBare a fault.NoClock old_text text = text ≡ old_text
FailsBare a fault.Memory old_text text = text ≡ old_text
FailsBare a fault.Output old_text text = ⊤
FailsBare a fault.Store old_text text = ⊤

abbrev pub FailsWith : NbnsArguments → Option StateFolder → Fault → (old_text text : Option (List ℕ)) → Type 0
FailsWith a None why old_text text = FailsBare a why old_text text
FailsWith a (Some state) why old_text text = FailsKept a state why old_text text

abbrev pub FailsServer : ServerArguments → Fault → (old_text text : Option (List ℕ)) → Type 0
FailsServer a why old_text text = FailsWith a.nbns a.state why old_text text

-- the exit status of a server that ended so
abbrev pub folder_status : Folder → ℕ
folder_status Own = 0
folder_status Held = 6

-- A server with a state serves, or it prints nothing, since another one has the lock. That this is so no contract can say.
abbrev pub EndsKept : NbnsArguments → StateFolder → Folder → (old_text text : Option (List ℕ)) → Type 0
EndsKept a state Own old_text text = RunsKept a state old_text text
EndsKept a state Held old_text text = text ≡ old_text

-- With a state it keeps its leases, and without one it is a server as it is, which needs no lock.
abbrev pub EndsWith : NbnsArguments → Option StateFolder → Folder → (old_text text : Option (List ℕ)) → Type 0
EndsWith a None folder old_text text = (folder ≡ Own) × RunsNbns a old_text text
EndsWith a (Some state) folder old_text text = EndsKept a state folder old_text text

abbrev pub EndsServer : ServerArguments → Folder → (old_text text : Option (List ℕ)) → Type 0
EndsServer a folder old_text text = EndsWith a.nbns a.state folder old_text text
