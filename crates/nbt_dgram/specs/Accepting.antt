-- What a node makes of the octets of one datagram (RFC 1002 section 5.3.3; the choices are our profile's).
use Rattle.std.specs.Prelude.{◌≡◌, ◌≢◌, ℕ, List, [], Some, None}
use Rattle.nbt_name.specs.declared.addr.Addr.{Addr}
use Rattle.nbt_name.specs.declared.addr.Kind.{Kind}
use Rattle.nbt_name.specs.Wire.{NameValue}
use Rattle.nbt_node.specs.Node.{NodeValue, holds}
use Rattle.nbt_dgram.specs.declared.fault.DgramFault.{DgramFault}
use Rattle.nbt_dgram.specs.declared.msg_type.Delivery.{Delivery}
use Rattle.nbt_dgram.specs.declared.msg_type.Delivery.TheVariants.{DirectUnique, Broadcast}
use Rattle.nbt_dgram.specs.declared.msg_type.Lookup.{Lookup}
use Rattle.nbt_dgram.specs.declared.dgram.Names.{Names}
use Rattle.nbt_dgram.specs.declared.joined.Dropped.{Dropped}
use Rattle.nbt_dgram.specs.declared.outcome.Accept.{Accept}
use Rattle.nbt_dgram.specs.declared.outcome.Accept.TheVariants as m
use Rattle.nbt_dgram.specs.Dgram.{FragmentValue, fragment, error, lookup, DgramValue, DgramIs, FaultIs}
use Rattle.nbt_dgram.specs.Text.{text}
use Rattle.nbt_dgram.specs.Joiner.{JoinedValue, whole, waiting, dropped, JoinerValue, Puts}

pub data AcceptValue : Type 0 where
  up : Names → List ℕ → AcceptValue
  reply : Addr → AcceptValue
  told : (id code : ℕ) → AcceptValue
  waits : AcceptValue
  nothing : AcceptValue

abbrev pub accept_of : Accept → AcceptValue
accept_of (m.Up names payload) = up names payload.now
accept_of (m.Reply to) = reply to
accept_of (m.Error id code) = told id code
accept_of m.Waiting = waits
accept_of m.Nothing = nothing

-- the error packet that says that the destination name isn't held here, with the node's own address
abbrev pub not_present : ℕ → Addr → DgramValue
not_present id own = record { id = id; source = own; body = error 0x82 }

-- What a datagram that was put to the joiner leads to, and the octets that are sent.
pub data Hands (node : NodeValue) (now : ℕ) (own : Addr) (d : DgramValue) (delivery : Delivery) : JoinedValue → AcceptValue → List ℕ → Type 0 where
  handed_up : (names : Names) (payload : List ℕ) (kind : Kind) → holds node names.destination now ≡ Some kind → Hands node now own d delivery (whole names payload) (up names payload) []
  refused : (names : Names) (payload : List ℕ) → holds node names.destination now ≡ None → delivery ≡ DirectUnique
      → Hands node now own d delivery (whole names payload) (reply d.source) (text (not_present d.id own))
  silent : (names : Names) (payload : List ℕ) → holds node names.destination now ≡ None → delivery ≢ DirectUnique → Hands node now own d delivery (whole names payload) nothing []
  unfinished : Hands node now own d delivery waiting waits []
  was_dropped : (reason : Dropped) → Hands node now own d delivery (dropped reason) nothing []

-- What octets lead to, the octets that are sent, and the joiner afterwards: only a datagram for one holder or a group is
-- put to the joiner.
pub data Accepts (old : JoinerValue) (now : ℕ) (node : NodeValue) (own : Addr) (octets : List ℕ) : AcceptValue → List ℕ → JoinerValue → Type 0 where
  unreadable : (fault : DgramFault) → FaultIs octets fault → Accepts old now node own octets nothing [] old
  error_told : (d : DgramValue) (n code : ℕ) → DgramIs octets d n → d.body ≡ error code → Accepts old now node own octets (told d.id code) [] old
  lookup_ignored : (d : DgramValue) (n : ℕ) (l : Lookup) (name : NameValue) → DgramIs octets d n → d.body ≡ lookup l name → Accepts old now node own octets nothing [] old
  broadcast_ignored : (d : DgramValue) (n : ℕ) (f : FragmentValue) → DgramIs octets d n → d.body ≡ fragment f → f.delivery ≡ Broadcast → Accepts old now node own octets nothing [] old
  is_put : (d : DgramValue) (n : ℕ) (f : FragmentValue) (joined : JoinedValue) (outcome : AcceptValue) (sent : List ℕ) (new : JoinerValue) → DgramIs octets d n → d.body ≡ fragment f → f.delivery ≢ Broadcast
      → Puts old now d joined new → Hands node now own d f.delivery joined outcome sent → Accepts old now node own octets outcome sent new
