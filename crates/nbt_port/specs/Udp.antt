-- Ports over UDP: as much as can be said of it (our profile).
use Rattle.std.specs.Prelude.{◌≡◌, ℕ, ◌≤◌, length}
use Rattle.nbt_name.specs.declared.addr.Addr.{Addr}
use Rattle.nbt_port.specs.Numbers.{octets_most}
use Rattle.nbt_port.specs.PortCalls.{PortCall, came}
use Rattle.nbt_port.specs.declared.bind.Bind.{Bind}

-- the address that a port was bound to, as it was asked for, and how many of its calls have failed
pub record UdpValue : Type 0 where
  pub addr : Addr
  pub failures : ℕ

-- What comes has at most 2,048 octets.
abbrev pub FitsReceive : PortCall → Type 0
FitsReceive (came from octets) = length octets ≤ octets_most
FitsReceive _ = Unit {0}

-- A call leaves the port where it is. Which octets a socket carries, no contract can say.
abbrev pub UdpDoes : UdpValue → PortCall → UdpValue → Type 0
UdpDoes old act new = (new.addr ≡ old.addr) × FitsReceive act

-- A port over several sockets: which addresses it was told to have, and how many of its calls have failed
pub record PortsValue : Type 0 where
  pub bind : Bind
  pub failures : ℕ

-- Which addresses there are now, and which of them a datagram comes to or leaves from, no contract can say.
abbrev pub PortsDo : PortsValue → PortCall → PortsValue → Type 0
PortsDo old act new = (new.bind ≡ old.bind) × FitsReceive act
