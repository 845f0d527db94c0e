-- A reply to a scan: a node status response (RFC 1002 section 4.2.18).
use Rattle.std.specs.Prelude.{◌≡◌, ℕ, ◌+◌, List, length, drop, Some}
use Rattle.nbt_packet.specs.Message.{MessageIs, NameValue, status}
use Rattle.nbt_packet.specs.Packet.{PacketValue, RecordValue, PacketIs}

-- The octets begin with one of this id, which has these names, and behind them these statistics.
pub record IsStatus (id : ℕ) (octets names statistics : List ℕ) : Type 0 where
  pub packet : PacketValue
  pub taken : ℕ
  pub name : NameValue
  pub answer : RecordValue
  pub packet_is : PacketIs octets packet taken
  pub message_is : MessageIs packet (status id name names)
  pub answer_is : packet.answer ≡ Some answer
  pub statistics_are : statistics ≡ drop (1 + length names) answer.rdata

-- They begin with none.
abbrev pub IsNoStatus : (id : ℕ) (octets : List ℕ) → Type 0
IsNoStatus id octets = (names statistics : List ℕ) → ¬ IsStatus id octets names statistics
