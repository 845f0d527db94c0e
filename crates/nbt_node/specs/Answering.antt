-- What an endpoint sends back to who sent it a datagram, where it answers queries for the names that its node holds (RFC 1002
-- section 4.2.13).
use Rattle.std.specs.Prelude.{ℕ, List, Option, Some, None}
use Rattle.nbt_name.specs.declared.addr.Kind.{Kind}
use Rattle.nbt_name.specs.Wire.{NameValue}
use Rattle.nbt_packet.specs.Message.{MessageValue, query, nb}
use Rattle.nbt_packet.specs.Text.{answer_octets, entry}
use Rattle.nbt_node.specs.Node.{NodeValue, holds}
use Rattle.nbt_node.specs.Moves.{Told, replied}

-- The positive reply to a query for a name of the node: R, AA and RD set, the TTL 0, and the node's one entry (RFC 1002
-- section 4.2.13).
abbrev pub answer : NodeValue → (id : ℕ) → NameValue → Kind → List ℕ
answer node id name kind = answer_octets id 0x8500 name nb 0 (entry kind node.addr.ip)

abbrev pub answer_if : NodeValue → (id : ℕ) → NameValue → Option Kind → Option (List ℕ)
answer_if node id name None = None
answer_if node id name (Some kind) = Some (answer node id name kind)

-- what the node itself has to say
abbrev pub own_reply : Told → (reply : List ℕ) → Option (List ℕ)
own_reply replied reply = Some reply
own_reply told reply = None

-- What is sent back: to a query for a name that is held at that moment its entry; else what the node itself has to say.
abbrev pub sent_back : NodeValue → (now : ℕ) → Option MessageValue → Told → (reply : List ℕ) → Option (List ℕ)
sent_back node now (Some (query id name)) told reply = answer_if node id name (holds node name now)
sent_back node now message told reply = own_reply told reply
