-- What the contract of a whole host says, as a life (our profile).
use Rattle.std.specs.Prelude.{◌≡◌, ◌⊎◌, ℕ, Bool, List, [], Option, Some, None}
use Rattle.nbt_name.specs.declared.addr.Addr.{Addr}
use Rattle.nbt_node.specs.Node.{NodeValue}
use Rattle.nbt_port.specs.PortCalls.{PortCall}
use Rattle.nbt_port.specs.Udp.{UdpDoes}
use Rattle.nbt_port.specs.declared.fault.Fault.{Fault}
use Rattle.nbt_host.specs.Running.{HostsOver, HostOverFails, HostsHere, HostFailsHere, LooksHere, TellsHere}
use Rattle.nbt_host.specs.Sleeping.{unwatched}
use Rattle.nbt_host.specs.declared.arguments.HostArguments.{HostArguments}
use Rattle.nbt_host.specs.declared.watching.Look.{Look}
use Rattle.nbt_net.specs.Hosts.{HostLives}
use Rattle.nbt_net.specs.Devices.{Machine, NoStore, IsLived}

-- A host's clock is read alone, or looked at with the time of day.
abbrev pub TellsOrLooks : {K : Type 0} → (K → ℕ → K → Type 0) → (K → Look → K → Type 0) → K → (now : ℕ) → K → Type 0
TellsOrLooks tells looks old now new = tells old now new ⊎ ((look : Look) × looks old look new × (look.at ≡ now))

abbrev pub host_machine : {P K : Type 0} → P → K → Machine P K (Unit {0})
host_machine port watch = record { port = port; clock = watch; store = None }

-- From nothing a host lived with this port and these clocks, at its one server, and then its node was this. What it sends leaves before
-- its clock reads a later time.
abbrev pub HostIsLived : {P K : Type 0} → (P → PortCall → P → Type 0) → (K → ℕ → K → Type 0) → (K → Look → K → Type 0) → HostArguments → P → K → (node : NodeValue) → P → K → Type 0
HostIsLived does tells looks a old_port old_watch node port watch =
    IsLived (HostLives a.config a.server a.bind) 0 does (TellsOrLooks tells looks) NoStore None (host_machine old_port old_watch) (Some node) (host_machine port watch)

-- So does a host that has one server, over any port and clocks, until its time is over and its names are given back: from that port and those
-- clocks to what they were at last, with the node that it had then.
abbrev pub HostsAreLived : {P K : Type 0} → (P → PortCall → P → Type 0) → (K → ℕ → K → Type 0) → (K → Look → K → Type 0) → Type 0
HostsAreLived {P} {K} does tells looks = (at : Addr) (a : HostArguments) (all : Bool) (old_port port : P) (watch : K) (old_text text : Option (List ℕ)) → a.others.items ≡ []
    → (ran : HostsOver does tells looks at a all old_port watch old_text port text) → HostIsLived does tells looks a old_port watch ran.last.host.node port ran.last.watch

-- and so does one that ends early
abbrev pub FailedHostsAreLived : {P K : Type 0} → (P → PortCall → P → Type 0) → (K → ℕ → K → Type 0) → (K → Look → K → Type 0) → Type 0
FailedHostsAreLived {P} {K} does tells looks = (at : Addr) (a : HostArguments) (fault : Fault) (old_port port : P) (watch : K) (old_text text : Option (List ℕ)) → a.others.items ≡ []
    → (ran : HostOverFails does tells looks at a fault old_port watch old_text port text) → HostIsLived does tells looks a old_port watch ran.last.host.node port ran.last.watch

-- ---- over a UDP port of this machine that was bound to the host's address, and its clocks, which were not looked at yet

-- such a run is lived, from that port and those clocks to what they were at last
abbrev pub HereIsLived : {a : HostArguments} {all : Bool} {old_text text : Option (List ℕ)} → HostsHere a all old_text text → Type 0
HereIsLived {a = a} (at, steady, day, salt, port, begins, ran) = HostIsLived UdpDoes TellsHere LooksHere a (record { addr = a.bind; failures = 0 }) (unwatched steady day salt) ran.last.host.node port ran.last.watch

abbrev pub FailedHereIsLived : {a : HostArguments} {fault : Fault} {old_text text : Option (List ℕ)} → HostFailsHere a fault old_text text → Type 0
FailedHereIsLived {a = a} (at, steady, day, salt, port, begins, ran) = HostIsLived UdpDoes TellsHere LooksHere a (record { addr = a.bind; failures = 0 }) (unwatched steady day salt) ran.last.host.node port ran.last.watch

-- so is each run of `run_host` with one server, and each that ends early
abbrev pub HostsHereAreLived : Type 0
HostsHereAreLived = (a : HostArguments) (all : Bool) (old_text text : Option (List ℕ)) → a.others.items ≡ [] → (ran : HostsHere a all old_text text) → HereIsLived ran

abbrev pub FailedHostsHereAreLived : Type 0
FailedHostsHereAreLived = (a : HostArguments) (fault : Fault) (old_text text : Option (List ℕ)) → a.others.items ≡ [] → (ran : HostFailsHere a fault old_text text) → FailedHereIsLived ran
