-- What a node does in a turn over a port and a clock (our profile; RFC 1002 section 5.1.2).
use Rattle.std.specs.Prelude.{◌≡◌, ◌≢◌, ℕ, ◌<◌, List, [], ◌∷◌, ◌++◌, Some, None}
use Rattle.nbt_name.specs.declared.addr.Addr.{Addr}
use Rattle.nbt_node.specs.declared.fault.AskFault.{AskFault}
use Rattle.nbt_node.specs.Node.{NodeValue}
use Rattle.nbt_node.specs.Moves.{ask, Told, replied, is_granted, is_renewed, is_refused, is_lost}
use Rattle.nbt_node.specs.Calls.{ask_refusal, Sends, Polls}
use Rattle.nbt_node.specs.Datagrams.{Handles}
use Rattle.nbt_client.specs.declared.turning.Seen.{Seen}
use Rattle.nbt_client.specs.declared.turning.Seen.TheVariants as s
use Rattle.nbt_client.specs.declared.turning.Want.{Want}
use Rattle.nbt_port.specs.declared.port.Route.{Route}
use Rattle.nbt_port.specs.PortCalls.{PortCall, nothing_came, came, receive_failed, sent, send_failed, route_to, Chain}

-- ---- the ask

-- The node asks for the name, and the request is for the server.
pub record AsksFor (now : ℕ) (want : Want) (old : NodeValue) (octets : List ℕ) (new : NodeValue) : Type 0 where
  pub may : ask_refusal old now want.name ≡ None
  pub sends : Sends old now want.name (ask want.kind want.ttl) new octets

-- The request is sent to the server. An ask that is refused is passed over.
pub data Asks (server : Addr) (now : ℕ) (want : Want) (old : NodeValue) : List PortCall → NodeValue → Type 0 where
  asks : (octets : List ℕ) (new : NodeValue) → AsksFor now want old octets new → Asks server now want old (sent (route_to server) octets ∷ []) new
  may_not_ask : (fault : AskFault) → ask_refusal old now want.name ≡ Some fault → Asks server now want old [] old

-- ---- the polls

-- a poll has something for an end, which is sent there
pub data PollsTo (now : ℕ) (old : NodeValue) : PortCall → NodeValue → Type 0 where
  polls_to : (to : Addr) (octets : List ℕ) (new : NodeValue) → Polls old now new (Some to) octets → PollsTo now old (sent (route_to to) octets) new

-- Polls go on until one has nothing. One that is refused since the clock went back ends them too, and is passed over.
pub data EndsPolls (now : ℕ) (old : NodeValue) : NodeValue → Type 0 where
  has_nothing : (octets : List ℕ) (new : NodeValue) → Polls old now new None octets → EndsPolls now old new
  polls_back : now < old.last → EndsPolls now old old

pub record PollsAll (now : ℕ) (old : NodeValue) (acts : List PortCall) (new : NodeValue) : Type 0 where
  pub mid : NodeValue
  pub polls : Chain (PollsTo now) old acts mid
  pub ends : EndsPolls now mid new

-- Polls go on until the send of one of them fails.
pub data BreaksPolls (now : ℕ) (old : NodeValue) : List PortCall → NodeValue → Type 0 where
  at_send : (polling : List PortCall) (mid new : NodeValue) (to : Addr) (octets : List ℕ) → Chain (PollsTo now) old polling mid → Polls mid now new (Some to) octets
      → BreaksPolls now old (polling ++ send_failed (route_to to) octets ∷ []) new

-- ---- what is heard

-- what a user of a node sees of what it was told
abbrev pub seen_of : Told → Seen
seen_of (is_granted seconds) = s.Granted seconds
seen_of (is_renewed seconds) = s.Renewed seconds
seen_of (is_refused rcode) = s.Refused rcode
seen_of is_lost = s.Lost
seen_of told = s.Nothing

-- The node takes what came, if anything, at a moment that doesn't go back. The reply to a status request is sent by the
-- request's own route. A datagram that the node refuses since the clock went back is passed over.
pub data TurnHears (now : ℕ) (old : NodeValue) : List PortCall → Seen → NodeValue → Type 0 where
  hears_nothing : TurnHears now old (nothing_came ∷ []) s.Nothing old
  hears : (from : Route) (octets : List ℕ) (told : Told) (new : NodeValue) → told ≢ replied → Handles old now from.peer octets new told [] → TurnHears now old (came from octets ∷ []) (seen_of told) new
  replies : (from : Route) (octets reply : List ℕ) (new : NodeValue) → Handles old now from.peer octets new replied reply → TurnHears now old (came from octets ∷ sent from reply ∷ []) s.Nothing new
  hears_back : (from : Route) (octets : List ℕ) → now < old.last → TurnHears now old (came from octets ∷ []) s.Nothing old

-- ---- a turn

-- The ask and the polls at the first moment that is read, one receive, and what is heard at the second.
pub record TakesTurn (server : Addr) (want : Want) (old : NodeValue) (acts : List PortCall) (moments : List ℕ) (seen : Seen) (new : NodeValue) : Type 0 where
  pub first : ℕ
  pub second : ℕ
  pub asking : List PortCall
  pub polling : List PortCall
  pub hearing : List PortCall
  pub asked : NodeValue
  pub polled : NodeValue
  pub asks : Asks server first want old asking asked
  pub polls : PollsAll first asked polling polled
  pub hears : TurnHears second polled hearing seen new
  pub acts_are : acts ≡ asking ++ (polling ++ hearing)
  pub moments_are : moments ≡ first ∷ second ∷ []

-- A turn in which the device fails: nothing else of the turn is done, and the node is as after the call of it that made
-- the sending, or as it was before the receive.
pub data BreaksTurn (server : Addr) (want : Want) (old : NodeValue) : List PortCall → List ℕ → NodeValue → Type 0 where
  at_ask : (first : ℕ) (octets : List ℕ) (new : NodeValue) → AsksFor first want old octets new → BreaksTurn server want old (send_failed (route_to server) octets ∷ []) (first ∷ []) new
  at_poll : (first : ℕ) (asking polling : List PortCall) (asked new : NodeValue) → Asks server first want old asking asked → BreaksPolls first asked polling new
      → BreaksTurn server want old (asking ++ polling) (first ∷ []) new
  at_receive : (first : ℕ) (asking polling : List PortCall) (asked new : NodeValue) → Asks server first want old asking asked → PollsAll first asked polling new
      → BreaksTurn server want old (asking ++ (polling ++ receive_failed ∷ [])) (first ∷ []) new
  at_reply : (first second : ℕ) (asking polling : List PortCall) (asked polled new : NodeValue) (from : Route) (octets reply : List ℕ) → Asks server first want old asking asked
      → PollsAll first asked polling polled → Handles polled second from.peer octets new replied reply
      → BreaksTurn server want old (asking ++ (polling ++ came from octets ∷ send_failed from reply ∷ [])) (first ∷ second ∷ []) new
