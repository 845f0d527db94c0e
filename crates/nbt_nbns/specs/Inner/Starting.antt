-- How a name server begins, before its port serves (private functions alone).
use Rattle.std.specs.Prelude.{◌≡◌, ◌≢◌, ◌⊎◌, ℕ, List, Option}
use Rattle.std.specs.Io.KnownBytes.{Appends}
use Rattle.nbt_name.specs.declared.addr.Addr.{Addr}
use Rattle.nbt_lease.specs.Lease.{Rows}
use Rattle.nbt_port.specs.Clocks.{MachineTells, SteadyTells, SteadyBegins, SystemShows}
use Rattle.nbt_port.specs.declared.fault.Fault.{Fault}
use Rattle.nbt_port.specs.declared.fault.Fault.TheVariants.{Device, Output}
use Rattle.nbt_nbns.specs.Begin.{IsBegin}
use Rattle.nbt_nbns.specs.Folders.{FolderValue}
use Rattle.nbt_nbns.specs.Places.{FileValue}
use Rattle.nbt_nbns.specs.Running.{Nbns, port_at_first}
use Rattle.nbt_nbns.specs.Staying.{Staying}
use Rattle.nbt_nbns.specs.declared.first_line.Manner.{Manner}
use Rattle.nbt_nbns.specs.declared.journal.Journal.{Journal}
use Rattle.nbt_nbns.specs.declared.arguments.NbnsArguments.{NbnsArguments}
use Rattle.nbt_nbns.specs.declared.opening.Told.{Told}
use Rattle.nbt_nbns.specs.declared.starting.Started.{Started}

-- what goes on of a server, with its port, and what was printed
abbrev pub staying_of : {P S C D V : Type 0} → P → Started S C D V → Option (List ℕ) → Staying P S C D V
staying_of port s text = record { served = record { port = port; clock = s.clock; server = s.server; state = s.state }; day = s.day; watcher = s.journal; text = text }

-- It begins as `starts` says, with these leases in the way of fixed names, and the first line is printed.
pub record Starts {C : Type 0} (starts : Manner → Nbns C → Type 0) (a : NbnsArguments) (standing : Rows) (old_text text : Option (List ℕ)) (s : Started FolderValue C ℕ (Journal ℕ FileValue)) : Type 0 where
  pub at : List Addr
  pub manner : Manner
  pub line : List ℕ
  pub begins : starts manner (staying_of (port_at_first a standing) s text)
  pub is_first : IsBegin at manner line
  pub printed : Appends old_text text line

-- It doesn't: the line can't be written, or nothing was printed, and it isn't for the device.
abbrev pub StartsNot : (old_text text : Option (List ℕ)) → Fault → Type 0
StartsNot old_text text why = (why ≡ Output) ⊎ ((why ≢ Device) × (text ≡ old_text))

-- The steady clock and that of the day were begun, and told this, the steady one twice.
pub record AreRead (steady : ℕ) (told : Told) (day : ℕ) : Type 0 where
  pub boot : ℕ
  pub day_before : ℕ
  pub begins : SteadyBegins SystemShows boot
  pub before_told : SteadyTells SystemShows boot told.before told.before
  pub monotonic_told : SteadyTells SystemShows told.before told.monotonic steady
  pub time_told : MachineTells day_before told.time day
