-- What the header's words are, read one by one.
use Rattle.std.specs.Prelude.{◌≡◌, ℕ, ◌+◌, ◌<◌, ◌≤◌, List, length}
use Rattle.nbt_packet.specs.declared.decoding.Header.{Header}
use Rattle.nbt_packet.specs.declared.fault.Fault.{Fault}
use Rattle.nbt_packet.specs.Numbers.{short, too_many}
use Rattle.nbt_name.specs.Words.{word_at}
use Rattle.nbt_packet.specs.Packet.{IsHeader}

-- the six words, as read
pub record IsHeaderOf (octets : List ℕ) (header : Header) : Type 0 where
  pub whole : IsHeader octets
  pub id : header.id ≡ word_at octets 0
  pub flags : header.flags ≡ word_at octets 2
  pub questions : header.questions ≡ word_at octets 4
  pub answers : header.answers ≡ word_at octets 6
  pub additionals : header.additionals ≡ word_at octets 10

-- a count is cut, or too great
pub data CountFault (octets : List ℕ) (place most : ℕ) : Fault → Type 0 where
  cut : length octets < place + 2 → CountFault octets place most (short octets)
  great : place + 2 ≤ length octets → most < word_at octets place → CountFault octets place most (too_many place)
