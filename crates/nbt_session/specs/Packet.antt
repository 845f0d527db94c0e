-- Session packets as octets: RFC 1002 section 4.3.
use Rattle.std.specs.Prelude.{ℕ, ◌/◌, ◌%◌, ◌<◌, ◌≤◌, ◌^◌, List, [], ◌∷◌, ◌++◌, length}
use Rattle.nbt_name.specs.Words.{word, long}
use Rattle.nbt_name.specs.declared.addr.Addr.{Addr}
use Rattle.nbt_name.specs.Wire.{NameValue, IsName, AreOctets, wire}
use Rattle.nbt_session.specs.declared.packet.Packet.{Packet}
use Rattle.nbt_session.specs.declared.packet.Packet.TheVariants as packets
use Rattle.nbt_session.specs.declared.packet.PacketType.{PacketType}
use Rattle.nbt_session.specs.declared.packet.PacketType.TheVariants.{Message, Request, Positive, Negative, Retarget, KeepAlive}

-- A packet, without where a message's octets lie in memory.
pub data PacketValue : Type 0 where
  message : List ℕ → PacketValue
  request : (called calling : NameValue) → PacketValue
  positive : PacketValue
  negative : ℕ → PacketValue
  retarget : Addr → PacketValue
  keep_alive : PacketValue

-- TYPE
abbrev pub octet_of : PacketType → ℕ
octet_of Message = 0x00
octet_of Request = 0x81
octet_of Positive = 0x82
octet_of Negative = 0x83
octet_of Retarget = 0x84
octet_of KeepAlive = 0x85

-- the least and the greatest LENGTH, with the bit E of FLAGS as its 17th
abbrev pub least : PacketType → ℕ
least Message = 0
least Request = 68
least Positive = 0
least Negative = 1
least Retarget = 6
least KeepAlive = 0

abbrev pub most : PacketType → ℕ
most Message = 131071
most Request = 510
most Positive = 0
most Negative = 1
most Retarget = 6
most KeepAlive = 0

abbrev pub HasLength : PacketType → ℕ → Type 0
HasLength kind n = (least kind ≤ n) × (n ≤ most kind)

-- TYPE, FLAGS and LENGTH
abbrev pub header : PacketType → ℕ → List ℕ
header kind n = octet_of kind ∷ n / 65536 ∷ n / 256 % 256 ∷ n % 256 ∷ []

-- a header, and the octets that it counts
abbrev pub framed : PacketType → List ℕ → List ℕ
framed kind body = header kind (length body) ++ body

abbrev pub type_of : PacketValue → PacketType
type_of (message octets) = Message
type_of (request called calling) = Request
type_of positive = Positive
type_of (negative code) = Negative
type_of (retarget to) = Retarget
type_of keep_alive = KeepAlive

abbrev pub body_of : PacketValue → List ℕ
body_of (message octets) = octets
body_of (request called calling) = wire called ++ wire calling
body_of positive = []
body_of (negative code) = code ∷ []
body_of (retarget to) = long to.ip ++ word to.port
body_of keep_alive = []

-- a packet's text
abbrev pub text : PacketValue → List ℕ
text packet = framed (type_of packet) (body_of packet)

-- what has a text
abbrev pub IsPacket : PacketValue → Type 0
IsPacket (message octets) = (length octets ≤ 131071) × AreOctets octets
IsPacket (request called calling) = IsName called × IsName calling
IsPacket positive = Unit {0}
IsPacket (negative code) = code < 256
IsPacket (retarget to) = (to.ip < 2 ^ 32) × (to.port < 2 ^ 16)
IsPacket keep_alive = Unit {0}

-- what the code holds, as a value
abbrev pub packet_of : Packet → PacketValue
packet_of (packets.Message octets) = message octets.items
packet_of (packets.Request called calling) = request called calling
packet_of packets.Positive = positive
packet_of (packets.Negative code) = negative code
packet_of (packets.Retarget to) = retarget to
packet_of packets.KeepAlive = keep_alive
