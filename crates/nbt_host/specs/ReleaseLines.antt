-- How a host gives its names back, and what is printed of it (our profile).
use Rattle.std.specs.Prelude.{◌⊎◌, ℕ, nat_eq, if◌then◌else◌, List, Option}
use Rattle.std.specs.Io.KnownBytes.{Appends}
use Rattle.nbt_port.specs.PortCalls.{PortCall}
use Rattle.nbt_port.specs.declared.fault.Fault.{Fault}
use Rattle.nbt_port.specs.declared.fault.Fault.TheVariants.{Device}
use Rattle.nbt_log.specs.Dates.{second_at}
use Rattle.nbt_port.specs.Numbers.{forever}
use Rattle.nbt_host.specs.Hosting.{Terms}
use Rattle.nbt_host.specs.Releasing.{Releasing, GivesAllBack, FailsToGiveBack}
use Rattle.nbt_host.specs.declared.goal.Goal.{Goal}
use Rattle.nbt_host.specs.declared.goal.Stage.{Stage}
use Rattle.nbt_host.specs.declared.goal.Stage.TheVariants.{Wanted, Leaving, Released, Left, Doubtful}
use Rattle.nbt_host.specs.declared.watching.Look.{Look}
use Rattle.nbt_host.specs.Events.{IsLine}
use Rattle.nbt_host.specs.Host.{HostingValue, Running, dates_of, CantPrint}
use Rattle.nbt_host.specs.TurnLines.{TellsAll}
use Rattle.nbt_host.specs.declared.event.Event.{Event}
use Rattle.nbt_host.specs.declared.event.Event.TheVariants as e

-- what came of giving a name back
abbrev pub outcome_of : Stage → Event
outcome_of (Left rcode) = if nat_eq rcode 0 then e.GivenBack else e.Denied rcode
outcome_of Released = e.Unconfirmed
outcome_of Doubtful = e.Unconfirmed
outcome_of Leaving = e.NotHeld
outcome_of Wanted = e.NotHeld

abbrev pub TellsEnding : (second : ℕ) → Goal → List ℕ → Type 0
TellsEnding second goal line = IsLine second goal.want.name (outcome_of goal.stage) line

-- A line for each name is printed, dated by the moment after it all.
abbrev pub PrintsEnding : (at : ℕ) → Look → List Goal → (old_text text : Option (List ℕ)) → Type 0
PrintsEnding at last goals old_text text = (lines : List ℕ) × TellsAll (TellsEnding (second_at (dates_of last) at)) goals lines × Appends old_text text lines

-- a host over a port, with its clocks
abbrev pub releasing : {P K : Type 0} → P → HostingValue K → Releasing P K
releasing port h = record { port = port; watch = h.watch; last = h.last; host = h.host }

-- The names are given back in turns, in such a way, and the steady clock is read after them.
abbrev pub Ends : {P K : Type 0} → (K → ℕ → K → Type 0) → (gives : Releasing P K → Releasing P K → Type 0) → P → HostingValue K → (at : ℕ) → P → HostingValue K → Type 0
Ends {K = K} tells gives old_port old at port new = (ended : K) × gives (releasing old_port old) (releasing port (record new { watch = ended })) × tells ended at new.watch

-- the device doesn't fail in it, and it does
abbrev pub EndsWell : {P K : Type 0} → (P → PortCall → P → Type 0) → (K → ℕ → K → Type 0) → (K → Look → K → Type 0) → Terms → P → HostingValue K → (at : ℕ) → P → HostingValue K → Type 0
EndsWell does tells looks t old_port old at port new = Ends tells (GivesAllBack does tells looks t forever) old_port old at port new

abbrev pub EndsBadly : {P K : Type 0} → (P → PortCall → P → Type 0) → (K → ℕ → K → Type 0) → (K → Look → K → Type 0) → Terms → P → HostingValue K → (at : ℕ) → P → HostingValue K → Type 0
EndsBadly does tells looks t old_port old at port new = Ends tells (FailsToGiveBack does tells looks t forever) old_port old at port new

abbrev pub GivesBack : {P K : Type 0} → (P → PortCall → P → Type 0) → (K → ℕ → K → Type 0) → (K → Look → K → Type 0) → Terms → Running P K → Running P K → Type 0
GivesBack does tells looks t old new = (at : ℕ) × EndsWell does tells looks t old.port old.host at new.port new.host × PrintsEnding at new.host.last new.host.host.goals old.text new.text

-- The device fails, and what is known then is printed; or that can't be printed.
pub data GivingBackFails {P K : Type 0} (does : P → PortCall → P → Type 0) (tells : K → ℕ → K → Type 0) (looks : K → Look → K → Type 0) (t : Terms) : Fault → Running P K → Running P K → Type 0 where
  breaks : (old new : Running P K) (at : ℕ) → EndsBadly does tells looks t old.port old.host at new.port new.host → PrintsEnding at new.host.last new.host.host.goals old.text new.text
      → GivingBackFails does tells looks t Device old new
  is_cut : (fault : Fault) (old new : Running P K) (at : ℕ) → CantPrint fault → EndsWell does tells looks t old.port old.host at new.port new.host ⊎ EndsBadly does tells looks t old.port old.host at new.port new.host
      → GivingBackFails does tells looks t fault old new
