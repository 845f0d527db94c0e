-- A host that stays up until its time is over (our profile).
use Rattle.std.specs.Prelude.{ℕ, Option}
use Rattle.nbt_port.specs.PortCalls.{PortCall}
use Rattle.nbt_port.specs.declared.fault.Fault.{Fault}
use Rattle.nbt_port.specs.Staying.{StaysUntil, EndsEarly}
use Rattle.nbt_port.specs.Numbers.{forever}
use Rattle.nbt_host.specs.Host.{Running, CantPrint}
use Rattle.nbt_host.specs.Turning.{TurnsWell, TurnsBadly, TurnIsCut}
use Rattle.nbt_port.specs.Until.{IsOver}
use Rattle.nbt_host.specs.declared.watching.Look.{Look}
use Rattle.nbt_host.specs.declared.arguments.HostArguments.{HostArguments}
use Rattle.nbt_host.specs.declared.host.Shown.{Shown}

-- a turn after which its time isn't over, and the last one, after which it is
abbrev pub TurnsOn : {P K : Type 0} → (P → PortCall → P → Type 0) → (K → ℕ → K → Type 0) → (K → Look → K → Type 0) → HostArguments → (until : Option ℕ) → Running P K → Shown → Running P K → Type 0
TurnsOn does tells looks a until old shown new = TurnsWell does tells looks a old shown new × (¬ IsOver until shown.at)

abbrev pub TurnsLast : {P K : Type 0} → (P → PortCall → P → Type 0) → (K → ℕ → K → Type 0) → (K → Look → K → Type 0) → HostArguments → (until : Option ℕ) → Running P K → Running P K → Type 0
TurnsLast does tells looks a until old new = (shown : Shown) × TurnsWell does tells looks a old shown new × IsOver until shown.at

-- It stays up for good, or until its time is over.
abbrev pub HostsUntil : {P K : Type 0} → (P → PortCall → P → Type 0) → (K → ℕ → K → Type 0) → (K → Look → K → Type 0) → HostArguments → (until : Option ℕ) → Running P K → Running P K → Type 0
HostsUntil does tells looks a until old new = StaysUntil (TurnsOn does tells looks a until) (TurnsBadly does tells looks a) (TurnsLast does tells looks a until) forever old new

-- a turn of which something can't be printed
abbrev pub IsCutBy : {P K : Type 0} → (P → PortCall → P → Type 0) → (K → ℕ → K → Type 0) → (K → Look → K → Type 0) → HostArguments → Fault → Running P K → Running P K → Type 0
IsCutBy does tells looks a fault old new = CantPrint fault × TurnIsCut does tells looks a old new

-- It ends before that: it gives up, or what a turn shows can't be printed.
abbrev pub HostingFails : {P K : Type 0} → (P → PortCall → P → Type 0) → (K → ℕ → K → Type 0) → (K → Look → K → Type 0) → HostArguments → (until : Option ℕ) → Fault → Running P K → Running P K → Type 0
HostingFails does tells looks a until fault old new = EndsEarly (TurnsOn does tells looks a until) (TurnsBadly does tells looks a) (IsCutBy does tells looks a) forever fault old new
