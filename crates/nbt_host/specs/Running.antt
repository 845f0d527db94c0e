-- A host from its start to its end (our profile).
use Rattle.std.specs.Prelude.{◌≡◌, ◌⊎◌, ℕ, Bool, List, length, Option}
use Rattle.std.specs.List.{list_all}
use Rattle.std.specs.Io.KnownBytes.{Appends}
use Rattle.nbt_name.specs.declared.addr.Addr.{Addr}
use Rattle.nbt_port.specs.PortCalls.{PortCall}
use Rattle.nbt_port.specs.Clocks.{MachineTells, SteadyTells, SteadyBegins, SystemShows}
use Rattle.nbt_port.specs.Udp.{UdpValue, UdpDoes}
use Rattle.nbt_port.specs.declared.fault.Fault.{Fault}
use Rattle.nbt_host.specs.declared.watching.Look.{Look}
use Rattle.nbt_host.specs.declared.watching.WatchedClocks.{WatchedClocks}
use Rattle.nbt_host.specs.Sleeping.{LooksAt, SteadyAlone, unwatched}
use Rattle.nbt_host.specs.Goals.{is_held}
use Rattle.nbt_host.specs.Begin.{begin_text}
use Rattle.nbt_host.specs.Host.{HostingValue, Running, Starts, terms_of}
use Rattle.nbt_host.specs.Staying.{HostsUntil, HostingFails}
use Rattle.nbt_host.specs.ReleaseLines.{GivesBack, GivingBackFails}
use Rattle.nbt_port.specs.Until.{until_of}
use Rattle.nbt_host.specs.declared.arguments.HostArguments.{HostArguments}

-- A host stays up until its time is over. The steady clock is read, and then goes on what does.
pub record IsOverAt {P K : Type 0} (does : P → PortCall → P → Type 0) (tells : K → ℕ → K → Type 0) (looks : K → Look → K → Type 0) (a : HostArguments) (until : Option ℕ) (goes : Running P K → Running P K → Type 0)
    (old : Running P K) (all : Bool) (new : Running P K) : Type 0 where
  pub stayed : Running P K
  pub now : ℕ
  pub read : K
  pub stays : HostsUntil does tells looks a until old stayed
  pub told : tells stayed.host.watch now read
  pub all_is : all ≡ list_all (is_held stayed.host.host.node now) stayed.host.host.goals
  pub goes_on : goes (record stayed { host = record stayed.host { watch = read } }) new

-- Then the names are given back to the server that is asked then. It tells whether all were held before that.
abbrev pub RunsHost : {P K : Type 0} → (P → PortCall → P → Type 0) → (K → ℕ → K → Type 0) → (K → Look → K → Type 0) → HostArguments → (until : Option ℕ) → (all : Bool) → Running P K → Running P K → Type 0
RunsHost does tells looks a until all old new = IsOverAt does tells looks a until (λ stayed end. GivesBack does tells looks (terms_of a stayed.host.asked) stayed end) old all new

-- It ends before its time, or while the names are given back.
pub data RunFails {P K : Type 0} (does : P → PortCall → P → Type 0) (tells : K → ℕ → K → Type 0) (looks : K → Look → K → Type 0) (a : HostArguments) (until : Option ℕ) : Fault → Running P K → Running P K → Type 0 where
  before : (fault : Fault) (old new : Running P K) → HostingFails does tells looks a until fault old new → RunFails does tells looks a until fault old new
  at_the_end : (fault : Fault) (all : Bool) (old new : Running P K) → IsOverAt does tells looks a until (λ stayed end. GivingBackFails does tells looks (terms_of a stayed.host.asked) fault stayed end) old all new → RunFails does tells looks a until fault old new

-- A host starts, the first line is printed, and it goes on from there.
pub record Begins {P K : Type 0} (looks : K → Look → K → Type 0) (at : Addr) (a : HostArguments) (goes : (until : Option ℕ) → Running P K → Running P K → Type 0)
    (old_port : P) (watch : K) (old_text : Option (List ℕ)) (port : P) (text : Option (List ℕ)) : Type 0 where
  pub first : HostingValue K
  pub begun_text : Option (List ℕ)
  pub last : HostingValue K
  pub starts : Starts looks a watch first
  pub printed : Appends old_text begun_text (begin_text at a.server (length a.wants.items))
  pub goes_on : goes (until_of first.last.at a.time) (record { port = old_port; host = first; text = begun_text }) (record { port = port; host = last; text = text })

abbrev pub HostsOver : {P K : Type 0} → (P → PortCall → P → Type 0) → (K → ℕ → K → Type 0) → (K → Look → K → Type 0) → (at : Addr) → HostArguments → (all : Bool) → P → K → (old_text : Option (List ℕ)) → P → (text : Option (List ℕ)) → Type 0
HostsOver does tells looks at a all old_port watch old_text port text = Begins looks at a (λ until old new. RunsHost does tells looks a until all old new) old_port watch old_text port text

abbrev pub HostOverFails : {P K : Type 0} → (P → PortCall → P → Type 0) → (K → ℕ → K → Type 0) → (K → Look → K → Type 0) → (at : Addr) → HostArguments → Fault → P → K → (old_text : Option (List ℕ)) → P → (text : Option (List ℕ)) → Type 0
HostOverFails does tells looks at a fault old_port watch old_text port text = Begins looks at a (λ until old new. RunFails does tells looks a until fault old new) old_port watch old_text port text

-- Whichever way it ends early: it did before its host called the port, or as above.
abbrev pub HostOverEnds : {P K : Type 0} → (P → PortCall → P → Type 0) → (K → ℕ → K → Type 0) → (K → Look → K → Type 0) → (at : Addr) → HostArguments → Fault → P → K → (old_text : Option (List ℕ)) → P → (text : Option (List ℕ)) → Type 0
HostOverEnds does tells looks at a fault old_port watch old_text port text = (port ≡ old_port) ⊎ HostOverFails does tells looks at a fault old_port watch old_text port text

-- over a UDP port of this machine that was bound to this address, its steady clock, and its time of day, with some salt
abbrev pub Here : HostArguments → (UdpValue → WatchedClocks ℕ ℕ → UdpValue → Addr → Type 0) → Type 0
Here a goes = (at : Addr) × (steady : ℕ) × (day : ℕ) × (salt : ℕ) × (port : UdpValue) × SteadyBegins SystemShows steady × goes (record { addr = a.bind; failures = 0 }) (unwatched steady day salt) port at

-- the steady clock of this machine, and a look at both clocks
abbrev pub TellsHere : WatchedClocks ℕ ℕ → (moment : ℕ) → WatchedClocks ℕ ℕ → Type 0
TellsHere = SteadyAlone (SteadyTells SystemShows)

abbrev pub LooksHere : WatchedClocks ℕ ℕ → Look → WatchedClocks ℕ ℕ → Type 0
LooksHere = LooksAt (SteadyTells SystemShows) MachineTells

abbrev pub HostsHere : HostArguments → (all : Bool) → (old_text text : Option (List ℕ)) → Type 0
HostsHere a all old_text text = Here a (λ old_port watch port at. HostsOver UdpDoes TellsHere LooksHere at a all old_port watch old_text port text)

abbrev pub HostFailsHere : HostArguments → Fault → (old_text text : Option (List ℕ)) → Type 0
HostFailsHere a fault old_text text = Here a (λ old_port watch port at. HostOverFails UdpDoes TellsHere LooksHere at a fault old_port watch old_text port text)
