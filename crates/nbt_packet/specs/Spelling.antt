-- What octets say: the words by which crates above speak of datagrams, with no packet, section or place among them.
use Rattle.std.specs.Prelude.{◌≡◌, ℕ, ◌*◌, ◌≤◌, List, [], length, Option, Some, None}
use Rattle.nbt_packet.specs.Packet.{PacketValue, PacketIs}
use Rattle.nbt_packet.specs.Message.{NameValue, MessageValue, MessageIs, registration, overwrite, refresh, release, query, status_request, registered, released, found, not_found, status, wait}
use Rattle.nbt_packet.specs.Text.{text, entries_most}

-- The octets begin with a packet that spells the message; what comes after that packet is not looked at.
pub record Spells (octets : List ℕ) (message : MessageValue) : Type 0 where
  pub packet : PacketValue
  pub taken : ℕ
  pub packet_is : PacketIs octets packet taken
  pub message_is : MessageIs packet message

-- The octets are a message's written form, which spells it; where there is no message there are none.
abbrev pub AreWritten : Option MessageValue → List ℕ → Type 0
AreWritten None octets = octets ≡ []
AreWritten (Some message) octets = (octets ≡ text message) × Spells octets message

-- a message's id, which matches a reply to its request
abbrev pub id_of : MessageValue → ℕ
id_of (registration r) = r.id
id_of (overwrite r) = r.id
id_of (refresh r) = r.id
id_of (release id name kind addr) = id
id_of (query id name) = id
id_of (status_request id name) = id
id_of (registered rcode r) = r.id
id_of (released id rcode name kind addr) = id
id_of (found id name ttl entries cut) = id
id_of (not_found id rcode name) = id
id_of (status id name names) = id
id_of (wait id name ttl) = id

-- the name that a message is about, where it has one
abbrev pub name_in : MessageValue → Option NameValue
name_in (registration r) = Some r.name
name_in (overwrite r) = Some r.name
name_in (refresh r) = Some r.name
name_in (release id name kind addr) = Some name
name_in (query id name) = Some name
name_in (status_request id name) = Some name
name_in (registered rcode r) = Some r.name
name_in (released id rcode name kind addr) = Some name
name_in (found id name ttl entries cut) = Some name
name_in (not_found id rcode name) = name
name_in (status id name names) = Some name
name_in (wait id name ttl) = Some name

-- as many entries as fit beside the name, and at most 14 names of a node status, as many as fit beside any name
abbrev pub HasFewRows : MessageValue → Type 0
HasFewRows (found id name ttl entries cut) = length entries ≤ 6 * entries_most name
HasFewRows (status id name names) = length names ≤ 18 * 14
HasFewRows _ = Unit {0}
