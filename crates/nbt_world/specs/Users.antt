-- What nodes do for the users of a name: they let calls in, and hand datagrams up (RFC 1002 sections 5.2.1 and 5.3.3).
use Rattle.std.specs.Prelude.{◌≡◌, ◌≢◌, ℕ, ◌⊎◌, IsTrue, List, Some, All}
use Rattle.nbt_name.specs.declared.addr.Addr.{Addr}
use Rattle.nbt_name.specs.declared.addr.Kind.TheVariants.{Group}
use Rattle.nbt_name.specs.Wire.{NameValue}
use Rattle.nbt_node.specs.Node.{NodeValue, holds}
use Rattle.nbt_dgram.specs.declared.dgram.Names.{Names}
use Rattle.nbt_dgram.specs.Joiner.{JoinerValue}
use Rattle.nbt_dgram.specs.Accepting.{Accepts, up}
use Rattle.nbt_session.specs.Event.{packet}
use Rattle.nbt_session.specs.Listener.{ListenerValue, ListenerAnswerValue, ListenerMoves, LetsIn}
use Rattle.nbt_session.specs.Packet.{request}
use Rattle.nbt_world.specs.Drift.{reading}
use Rattle.nbt_world.specs.World.{WorldValue, node_of}
use Rattle.nbt_world.specs.Safety.{holding}

-- At the world's time, which the node judges by its own reading, a listener lets in a call to the name at this node, here
-- or elsewhere. It may have any entries and connections.
pub record LetsCallIn (world : WorldValue) (number : ℕ) (name : NameValue) : Type 0 where
  pub node : NodeValue
  pub is_up : node_of world.ends number ≡ Some node
  pub before : ListenerValue
  pub after : ListenerValue
  pub connection : ℕ
  pub calling : NameValue
  pub answer : ListenerAnswerValue
  pub moves : ListenerMoves (λ called. holds node called (reading world.now number)) before connection (packet (request name calling)) after answer
  pub lets_in : LetsIn answer

-- At the world's time, which the node judges by its own reading, octets that come to this node make it hand up a datagram for
-- the name. Any fragments may have come before.
pub record HandsUp (world : WorldValue) (number : ℕ) (name : NameValue) : Type 0 where
  pub node : NodeValue
  pub is_up : node_of world.ends number ≡ Some node
  pub before : JoinerValue
  pub after : JoinerValue
  pub own : Addr
  pub octets : List ℕ
  pub names : Names
  pub payload : List ℕ
  pub sent : List ℕ
  pub accepts : Accepts before (reading world.now number) node own octets (up names payload) sent after
  pub for_name : names.destination ≡ name

-- The node does one of the two.
abbrev pub ServesUsers : WorldValue → (number : ℕ) → NameValue → Type 0
ServesUsers world number name = LetsCallIn world number name ⊎ HandsUp world number name

-- Two different nodes that do so for one name hold it as a group.
abbrev pub ServeUsersAsGroup : WorldValue → Type 0
ServeUsersAsGroup world = (name : NameValue) (i j : ℕ) → i ≢ j → ServesUsers world i name → ServesUsers world j name → (holding world i name ≡ Some Group) × (holding world j name ≡ Some Group)

-- each of these worlds up to which the readings kept the drift bound is such a one
abbrev pub ServeUsersWhileKept : List WorldValue → Type 0
ServeUsersWhileKept worlds = All (λ world. IsTrue world.kept → ServeUsersAsGroup world) worlds

-- each of them up to which they were timely is
abbrev pub ServeUsersWhileTimely : List WorldValue → Type 0
ServeUsersWhileTimely worlds = All (λ world. IsTrue world.timely → ServeUsersAsGroup world) worlds
