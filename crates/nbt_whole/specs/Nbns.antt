-- What the contract of a whole name server says, as a life (our profile).
use Rattle.std.specs.Prelude.{◌≡◌, ◌⊎◌, ℕ, List, [], ◌++◌, Option, Some}
use Rattle.nbt_lease.specs.Config.{ConfigValue, IsConfig}
use Rattle.nbt_port.specs.Clocks.{SteadyTells, SystemShows, TellsAhead}
use Rattle.nbt_port.specs.declared.ahead.Ahead.{Ahead}
use Rattle.nbt_port.specs.declared.fault.Fault.{Fault}
use Rattle.nbt_store.specs.declared.beginning.Begun.{Begun}
use Rattle.nbt_store.specs.Crashes.{CrashLeaves, Folder, folder_of}
use Rattle.nbt_store.specs.DiskCalls.{DiskCall}
use Rattle.nbt_store.specs.DiskStores.{AskInTurn, Tail, tail_at}
use Rattle.nbt_serve.specs.Devices.{DeviceCall}
use Rattle.nbt_serve.specs.Runs.{Begins, calls_in, live_rows, stored_in}
use Rattle.nbt_nbns.specs.Folders.{FolderDoes, FolderValue, IsOpenedWith}
use Rattle.nbt_nbns.specs.Running.{Nbns, PortDoes, RunsNbns, NbnsFails}
use Rattle.nbt_nbns.specs.Servers.{RunsKept, KeptFails}
use Rattle.nbt_nbns.specs.Staying.{Served, keeping_of}
use Rattle.nbt_nbns.specs.declared.arguments.NbnsArguments.{NbnsArguments}
use Rattle.nbt_nbns.specs.declared.arguments.StateFolder.{StateFolder}
use Rattle.nbt_nbns.specs.declared.state.State.{State}
use Rattle.nbt_net.specs.Again.{IsUnderWay, held_of, kept_of}
use Rattle.nbt_net.specs.BareWorking.{Bare, BareWorkIsLived}
use Rattle.nbt_net.specs.Headers.{AsksToOpen, IsHeaderOf, NextGoesOn}
use Rattle.nbt_net.specs.Wire.{Act}
use Rattle.nbt_net.specs.Working.{PutsFront, held_in, WorkIsLived}

-- ---- without a state

-- its port, its clock and the server
abbrev pub bare_of : {P S C : Type 0} → Served P S C → Bare P C
bare_of here = record { port = here.port; clock = here.clock; server = here.server }

-- A server without a state lived from nothing, by a clock that had told `boot`, from what it was first to what it was last.
abbrev pub NbnsIsLived : NbnsArguments → (boot : ℕ) → (first last : Nbns ℕ) → Type 0
NbnsIsLived a boot first last = BareWorkIsLived (PortDoes a.strict) PutsFront (SteadyTells SystemShows) a.config boot (bare_of first.served) (bare_of last.served)

-- So it does from its first call to its last, until its time is over or its port fails for good.
abbrev pub NbnsAreLived : Type 0
NbnsAreLived = (a : NbnsArguments) (old_text text : Option (List ℕ)) → (ran : RunsNbns a old_text text) → NbnsIsLived a ran.begins.boot ran.first ran.last

abbrev pub FailedNbnsAreLived : Type 0
FailedNbnsAreLived = (a : NbnsArguments) (old_text text : Option (List ℕ)) → (ran : NbnsFails a old_text text) → NbnsIsLived a ran.begins.boot ran.first ran.last

-- ---- with a state

-- A server with a state lived from what it began as to what it was last; it has a state then too. A run begins with what it began as, with its
-- limit of clients. Each new file is begun with a header of that server: with its start, its life and its longest lease.
pub record KeptIsLived (a : NbnsArguments) (begun : Begun) (first last : Nbns (Ahead ℕ)) : Type 0 where
  pub old : State FolderValue
  pub new : State FolderValue
  pub was_there : first.served.state ≡ Some old
  pub is_there : last.served.state ≡ Some new
  pub began : held_in (keeping_of first.served old) ≡ held_of (Some a.rows_per_client) begun
  pub begins : Begins (kept_of begun) begun.header.last (held_of (Some a.rows_per_client) begun)
  pub lived : WorkIsLived (PortDoes a.strict) PutsFront FolderDoes (TellsAhead (SteadyTells SystemShows)) (IsHeaderOf first.served.server) a.config (keeping_of first.served old) (keeping_of last.served new)

-- So it does until its time is over, or until its port fails for good, or its store fails.
abbrev pub KeptAreLived : Type 0
KeptAreLived = (a : NbnsArguments) (state : StateFolder) (old_text text : Option (List ℕ)) → (ran : RunsKept a state old_text text) → KeptIsLived a ran.begins.finds.begun ran.first ran.last

abbrev pub FailedKeptAreLived : Type 0
FailedKeptAreLived = (a : NbnsArguments) (state : StateFolder) (why : Fault) (old_text text : Option (List ℕ)) → (ran : KeptFails a state why old_text text) → KeptIsLived a ran.begins.finds.begun ran.first ran.last

-- ---- over crashes

-- What the calls of its store asked of its disk is what such calls ask, one after the other, behind the file that it wrote as it began (`asks`). So a
-- server that was under way as it began is so over a crash, at or within any call of its devices, by the premise on disks: the next start
-- that finds what the crash left of that file goes on with this server, or begins anew (`next`). Where the crash came as that file was being written, it
-- left what one before it leaves, or the same holds (`opens`).
pub record KeptGoesOn (a : NbnsArguments) (begun : Begun) (store : FolderValue) (opened : IsOpenedWith begun.header (live_rows begun.server) store) (first last : Nbns (Ahead ℕ)) : Type 0 where
  pub kept : KeptIsLived a begun first last
  pub asks : (asked : List DiskCall) × AskInTurn (stored_in (calls_in kept.lived.seen)) (tail_at opened.sum) asked kept.new.store.tail
  pub next : (config : ConfigValue) (acts : List Act) → IsConfig config → IsUnderWay config acts (kept_of begun) begun.header.last (held_of (Some a.rows_per_client) begun)
      → (before behind : List DeviceCall) → calls_in kept.lived.seen ≡ before ++ behind → (asked : List DiskCall) (mid : Tail) → AskInTurn (stored_in before) (tail_at opened.sum) asked mid
      → (octets : List ℕ) → CrashLeaves (folder_of opened.text) asked octets → NextGoesOn config acts begun (Some a.rows_per_client) kept.lived.seen before octets
  pub opens : (config : ConfigValue) (acts : List Act) → IsConfig config → IsUnderWay config acts (kept_of begun) begun.header.last (held_of (Some a.rows_per_client) begun)
      → (folder : Folder) (asked opening : List DiskCall) (octets : List ℕ) → AsksToOpen opened.text opening → CrashLeaves folder (asked ++ opening) octets → CrashLeaves folder asked octets ⊎ NextGoesOn config acts begun (Some a.rows_per_client) [] [] octets

-- So it is until its time is over, or until its port fails for good, or its store fails.
abbrev pub KeptGoOn : Type 0
KeptGoOn = (a : NbnsArguments) (state : StateFolder) (old_text text : Option (List ℕ)) → (ran : RunsKept a state old_text text) → KeptGoesOn a ran.begins.finds.begun ran.begins.store ran.begins.opened ran.first ran.last

abbrev pub FailedKeptGoOn : Type 0
FailedKeptGoOn = (a : NbnsArguments) (state : StateFolder) (why : Fault) (old_text text : Option (List ℕ)) → (ran : KeptFails a state why old_text text) → KeptGoesOn a ran.begins.finds.begun ran.begins.store ran.begins.opened ran.first ran.last
