-- What stands before a server: a front, and what takes the registrations of Samba's programs (our profile).
use Rattle.std.specs.Prelude.{◌≡◌, ◌⊎◌, ⊤, List, Some, Contains}
use Rattle.std.specs.List.{AllByRecursion}
use Rattle.nbt_name.specs.declared.addr.Addr.{Addr}
use Rattle.nbt_packet.specs.declared.message.Registration.{Registration}
use Rattle.nbt_packet.specs.Message.{registered}
use Rattle.nbt_packet.specs.Text.{text}
use Rattle.nbt_port.specs.PortCalls.{PortCall, came, Chain}
use Rattle.nbt_front.specs.Deciding.{FrontValue, IsHolder}
use Rattle.nbt_front.specs.FixedNames.{FixedValue, fixed_of}
use Rattle.nbt_front.specs.FrontPort.{Fronted}
use Rattle.nbt_serve.specs.Samba.{IsTaken}
use Rattle.nbt_world.specs.declared.clocks.Clocks.{Clocks}
use Rattle.nbt_world.specs.declared.network.Datagram.{Datagram}
use Rattle.nbt_world.specs.Step.{SpellMove}
use Rattle.nbt_world.specs.World.{WorldValue, IsOfEnd}
use Rattle.nbt_net.specs.Wire.{Comes, AllMayCome, sent_by}

-- It may come to the port beneath: it comes as to any end, and nothing that comes from an end's address is taken for a registration. So no
-- program there registers by OPCODE 15, or by an overwrite of a group.
abbrev pub MayComeBeneath : WorldValue → (to : Addr) → PortCall → Type 0
MayComeBeneath wire to (came from octets) = Comes wire from.peer to octets × (IsOfEnd wire.ends from.peer.ip → (r : Registration) → ¬ IsTaken octets r)
MayComeBeneath wire to call = ⊤

-- What a front sends in place of the server: it moves no name; or it confirms a fixed name to the address that it goes to, which is one of the
-- name's own, as the name's kind.
pub data IsFronts (front : FrontValue) (d : Datagram) : Type 0 where
  moves_none : ¬ SpellMove d.octets.items → IsFronts front d
  confirms : (r : Registration) (fixed : FixedValue) → d.octets.items ≡ text (registered 0 r) → fixed_of front.fixed r.name ≡ Some fixed → IsHolder d.to.ip r.kind r.addr fixed → IsFronts front d

-- These calls of the server's port are some calls of the port beneath. Where all that comes there may come, all that comes to the server may. What
-- is sent there is sent by the server, or is the front's. The front stays.
pub record AreThrough {P : Type 0} (does : P → PortCall → P → Type 0) (old : Fronted P) (calls : List PortCall) (new : Fronted P) : Type 0 where
  pub below : List PortCall
  pub did : Chain does old.port below new.port
  pub comes : (wire : WorldValue) (at : Addr) → AllByRecursion (MayComeBeneath wire at) below → AllMayCome wire at calls
  pub sends : (at : Addr) (moment : Clocks) (d : Datagram) → Contains (sent_by at moment below) d → Contains (sent_by at moment calls) d ⊎ IsFronts old.desk.front d
  pub front : new.desk.front ≡ old.desk.front
