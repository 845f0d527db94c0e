-- The network between programs: what happens in it, in the order of the true clock, and what comes to whom (our profile). A wire is a
-- world's value: its clocks and whether they were timely, the addresses of its ends, and all that they ever sent. What its ends know stands
-- elsewhere.
use Rattle.std.specs.Prelude.{◌≡◌, ℕ, nat_eq, ⊤, if◌then◌else◌, List, [], ◌∷◌, ◌++◌, slice_index, Some, Contains}
use Rattle.std.specs.List.{flat_map, AllByRecursion}
use Rattle.nbt_name.specs.declared.addr.Addr.{Addr}
use Rattle.nbt_port.specs.PortCalls.{PortCall, nothing_came, came, receive_failed, sent, send_failed}
use Rattle.nbt_world.specs.declared.clocks.Clocks.{Clocks}
use Rattle.nbt_world.specs.declared.network.Datagram.{Datagram}
use Rattle.nbt_world.specs.Drift.{reading}
use Rattle.nbt_world.specs.World.{WorldValue, IsDeliverable, IsOfEnd, addr_of, datagram}
use Rattle.nbt_world.specs.Step.{Advances, SpellMove}

-- ---- what happens

-- What an end's program does at one reading of its clock: these calls of its port. It receives before that reading, and sends after it.
pub record Act : Type 0 where
  pub now : ℕ
  pub calls : List PortCall

-- The clocks go on, or the end of this number does something: 0 is the server, and the hosts are numbered from 1.
pub data Happening : Type 0 where
  clocks_go_on : (ms : ℕ) → (readings : List ℕ) → Happening
  acts : (number : ℕ) → Act → Happening

-- what the end of this number does, in order
abbrev pub acts_in : (number : ℕ) → Happening → List Act
acts_in number (clocks_go_on ms readings) = []
acts_in number (acts other act) = if nat_eq other number then act ∷ [] else []

abbrev pub acts_of : (number : ℕ) → List Happening → List Act
acts_of number happenings = flat_map (acts_in number) happenings

-- ---- what is sent, and what comes

-- What calls of a port send from this address, whichever own address a route names. Where the device fails at it, the datagram may be lost.
abbrev pub sent_by : (at : Addr) → Clocks → List PortCall → List Datagram
sent_by at moment [] = []
sent_by at moment (sent to octets ∷ calls) = datagram at to.peer moment octets ∷ sent_by at moment calls
sent_by at moment (send_failed to octets ∷ calls) = datagram at to.peer moment octets ∷ sent_by at moment calls
sent_by at moment (nothing_came ∷ calls) = sent_by at moment calls
sent_by at moment (came from octets ∷ calls) = sent_by at moment calls
sent_by at moment (receive_failed ∷ calls) = sent_by at moment calls

-- Octets may come from an address to an end at another: they are of an act of the end there, and no longer than a life passed, by the true
-- clock, from the reading of that act to the reading at which they are handled, however late they left; or the address is no end's; or they
-- move no name, whoever sends them.
pub data Comes (wire : WorldValue) (from to : Addr) (octets : List ℕ) : Type 0 where
  of_an_end : (d : Datagram) → Contains wire.sent d → d.from ≡ from → d.to ≡ to → d.octets.items ≡ octets → IsDeliverable wire.config.life wire.now.clock d.moment.clock → Comes wire from to octets
  of_no_end : ¬ IsOfEnd wire.ends from.ip → Comes wire from to octets
  of_another_program : ¬ SpellMove octets → Comes wire from to octets

abbrev pub MayCome : WorldValue → (to : Addr) → PortCall → Type 0
MayCome wire to (came from octets) = Comes wire from.peer to octets
MayCome wire to call = ⊤

abbrev pub AllMayCome : WorldValue → (to : Addr) → List PortCall → Type 0
AllMayCome wire to calls = AllByRecursion (MayCome wire to) calls

-- Time passes, by the true clock and by each end's own; or an end acts at what its own clock reads: what comes to it may come, and what it
-- sends is sent.
pub data WireStep (old : WorldValue) : Happening → WorldValue → Type 0 where
  time_passes : (ms : ℕ) (readings : List ℕ) (new : WorldValue) → Advances old ms (slice_index readings) new → WireStep old (clocks_go_on ms readings) new
  end_acts : (number : ℕ) (at : Addr) (act : Act) → addr_of old.ends number ≡ Some at → act.now ≡ reading old.now number → AllMayCome old at act.calls
      → WireStep old (acts number act) (record old { sent = old.sent ++ sent_by at old.now act.calls })

-- All this happens in order, from a wire through these: the first is that wire itself, and the last is where it ends.
pub data WireRun : List Happening → WorldValue → (wires : List WorldValue) → WorldValue → Type 0 where
  ends : (wire : WorldValue) → WireRun [] wire (wire ∷ []) wire
  goes_on : (wire next last : WorldValue) (happening : Happening) (happenings : List Happening) (wires : List WorldValue) → WireStep wire happening next → WireRun happenings next wires last → WireRun (happening ∷ happenings) wire (wire ∷ wires) last
