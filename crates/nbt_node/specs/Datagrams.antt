-- What a datagram does to a node: first by the message that it spells, then by its octets (RFC 1002 section 5.1).
use Rattle.std.specs.Prelude.{◌≡◌, ℕ, Bool, true, false, ◌&&◌, ◌||◌, nat_eq, is_some, if◌then◌else◌, List, [], map, Option, Some, None}
use Rattle.std.specs.List.{flat_map}
use Rattle.std.specs.Str.{bytes_eq}
use Rattle.nbt_name.specs.declared.addr.Addr.{Addr}
use Rattle.nbt_name.specs.declared.addr.Kind.{Kind}
use Rattle.nbt_name.specs.Wire.{NameValue, same_name, is_star}
use Rattle.nbt_packet.specs.Message.{MessageValue, registered, released, found, not_found, status_request, status, wait}
use Rattle.nbt_packet.specs.Text.{status_name}
use Rattle.nbt_packet.specs.Spelling.{Spells, id_of, name_in, AreWritten}
use Rattle.nbt_node.specs.declared.lookup.Lookup.{Lookup}
use Rattle.nbt_node.specs.declared.lookup.Wanted.{Wanted}
use Rattle.nbt_node.specs.declared.lookup.Wanted.TheVariants.{Entries, Names}
use Rattle.nbt_node.specs.declared.state.Slot.{Slot}
use Rattle.nbt_node.specs.Node.{NodeValue, settled_slot, settled_lookup, state_at, Passes}
use Rattle.nbt_node.specs.Moves.{hear, NameMoves, Told, nothing, replied, finds, finds_none, lists}
use Rattle.nbt_node.specs.Calls.{held_kind, LooksUp}

abbrev pub same_end : Addr → Addr → Bool
same_end a b = nat_eq a.ip b.ip && nat_eq a.port b.port

-- what is said about a name counts only from the node's server, its address and port
pub data NodeHears (old : NodeValue) (now : ℕ) (from : Addr) (name : NameValue) (message : MessageValue) : NodeValue → Option MessageValue → Told → Type 0 where
  from_server : (new : NodeValue) (told : Told) → same_end from old.server ≡ true → NameMoves old now name (hear message) new None told → NodeHears old now from name message new None told
  from_stranger : (new : NodeValue) → same_end from old.server ≡ false → Passes old now new → NodeHears old now from name message new None nothing

-- a status reply lists the held names of the scope that is asked for, in order of slots (RFC 1002 section 4.2.18)
abbrev pub listed_as : List ℕ → Option Kind → List ℕ
listed_as octets None = []
listed_as octets (Some kind) = status_name octets kind

abbrev pub listed : (scope : List ℕ) → Option Slot → List ℕ
listed scope None = []
listed scope (Some slot) = if bytes_eq slot.name.scope scope then listed_as slot.name.octets (held_kind slot.state) else []

abbrev pub names_listed : NodeValue → ℕ → NameValue → List ℕ
names_listed node now name = flat_map (listed name.scope) (map (settled_slot node.config.life now) node.slots)

-- a status request for a name that begins with `*`, or is held, is replied to whoever sent it
abbrev pub is_listed_for : NodeValue → ℕ → NameValue → Bool
is_listed_for node now name = is_star name || is_some (held_kind (state_at node now name))

pub data Lists (old : NodeValue) (now id : ℕ) (name : NameValue) : NodeValue → Option MessageValue → Told → Type 0 where
  lists_names : (new : NodeValue) → is_listed_for old now name ≡ true → Passes old now new → Lists old now id name new (Some (status id name (names_listed old now name))) replied
  lists_nothing : (new : NodeValue) → is_listed_for old now name ≡ false → Passes old now new → Lists old now id name new None nothing

-- a lookup ends by what it asks for, or by a reply that it doesn't exist, with its id and its name where there is one, and
-- only from the endpoint that was queried
abbrev pub wants : MessageValue → Wanted → Bool
wants (found id name ttl entries cut) Entries = true
wants (status id name names) Names = true
wants (not_found id rcode name) wanted = true
wants message wanted = false

abbrev pub tells_name : Option NameValue → NameValue → Bool
tells_name None asked = true
tells_name (Some name) asked = same_name name asked

abbrev pub ends : Option Lookup → Addr → MessageValue → Bool
ends None from message = false
ends (Some l) from message = same_end from l.to && (wants message l.wanted && (nat_eq (id_of message) l.id && tells_name (name_in message) l.name))

pub data Ends (old : NodeValue) (now : ℕ) (from : Addr) (message : MessageValue) (told : Told) : NodeValue → Option MessageValue → Told → Type 0 where
  is_answered : (new : NodeValue) → ends (settled_lookup now old.lookup) from message ≡ true → LooksUp old now None old.next_id new → Ends old now from message told new None told
  is_unanswered : (new : NodeValue) → ends (settled_lookup now old.lookup) from message ≡ false → Passes old now new → Ends old now from message told new None nothing

-- nothing but time
pub data Idles (old : NodeValue) (now : ℕ) : NodeValue → Option MessageValue → Told → Type 0 where
  idles : (new : NodeValue) → Passes old now new → Idles old now new None nothing

-- what a message from an endpoint makes of the node, what is sent back there, and what is reported
abbrev pub NodeTakes : NodeValue → ℕ → Addr → MessageValue → NodeValue → Option MessageValue → Told → Type 0
NodeTakes old now from (registered rcode r) = NodeHears old now from r.name (registered rcode r)
NodeTakes old now from (released id rcode name kind addr) = NodeHears old now from name (released id rcode name kind addr)
NodeTakes old now from (wait id name ttl) = NodeHears old now from name (wait id name ttl)
NodeTakes old now from (status_request id name) = Lists old now id name
NodeTakes old now from (found id name ttl entries cut) = Ends old now from (found id name ttl entries cut) (finds entries cut)
NodeTakes old now from (not_found id rcode name) = Ends old now from (not_found id rcode name) finds_none
NodeTakes old now from (status id name names) = Ends old now from (status id name names) (lists names)
NodeTakes old now from message = Idles old now

-- a status request, the one request to which a node itself replies (RFC 1002 section 4.2.17)
abbrev pub asks_names : Option MessageValue → Bool
asks_names (Some (status_request id name)) = true
asks_names message = false

-- what octets say: the message that they spell, or that they spell none
abbrev pub Says : List ℕ → Option MessageValue → Type 0
Says octets None = (message : MessageValue) → ¬ Spells octets message
Says octets (Some message) = Spells octets message

-- and what octets do, by the message that they spell, if any
pub data NodeTakesOctets (old : NodeValue) (now : ℕ) (from : Addr) (octets : List ℕ) : NodeValue → Option MessageValue → Told → Type 0 where
  spelled : (message : MessageValue) (new : NodeValue) (sent : Option MessageValue) (told : Told) → Spells octets message → NodeTakes old now from message new sent told → NodeTakesOctets old now from octets new sent told
  unspelled : (new : NodeValue) → ((message : MessageValue) → Spells octets message → ⊥) → Passes old now new → NodeTakesOctets old now from octets new None nothing

pub record Handles (old : NodeValue) (now : ℕ) (from : Addr) (octets : List ℕ) (new : NodeValue) (told : Told) (out : List ℕ) : Type 0 where
  pub sent : Option MessageValue
  pub takes : NodeTakesOctets old now from octets new sent told
  pub written : AreWritten sent out
