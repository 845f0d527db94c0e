-- What is printed of the octets of one packet (our profile).
use Rattle.std.specs.Prelude.{◌≡◌, ℕ, List, [], ◌∷◌, ◌++◌, Option, Some, None, Bool, true, false, codes}
use Rattle.std.specs.Fmt.{decimal}
use Rattle.std.specs.Int.{to_be_bytes, w16}
use Rattle.hex.specs.Hex.{encode_lower}
use Rattle.nbt_packet.specs.declared.fault.Fault.{Fault}
use Rattle.nbt_packet.specs.declared.packet.Question.{Question}
use Rattle.nbt_packet.specs.Message.{MessageValue, MessageIs, registration, overwrite, refresh, release, query, status_request, registered, released, found, not_found, status, wait}
use Rattle.nbt_packet.specs.Packet.{PacketValue, RecordValue, PacketIs, PacketFault}
use Rattle.nbt_text.specs.Lines.{newline}
use Rattle.nbt_text.specs.NameText.{PrintsName}
use Rattle.nbt_packet.specs.Numbers.{fault_word}

-- a number of 16 bits, in four hexadecimal digits
abbrev pub four_digits : ℕ → List ℕ
four_digits number = encode_lower (to_be_bytes w16 number)

abbrev pub type_and_class : ℕ → ℕ → List ℕ
type_and_class rtype class = codes " type " ++ four_digits rtype ++ codes " class " ++ four_digits class

-- the octets in hexadecimal, or `-` where there are none
abbrev pub data_text : List ℕ → List ℕ
data_text [] = codes "-"
data_text (octet ∷ octets) = encode_lower (octet ∷ octets)

-- A section has a line where it is there.
pub data PrintsQuestion : Option Question → List ℕ → Type 0 where
  no_question : PrintsQuestion None []
  one_question : (question : Question) (name : List ℕ) → PrintsName question.name name
      → PrintsQuestion (Some question) (codes "question " ++ name ++ type_and_class question.rtype question.class ++ newline)

pub data PrintsRecord (label : List ℕ) : Option RecordValue → List ℕ → Type 0 where
  no_record : PrintsRecord label None []
  one_record : (r : RecordValue) (name : List ℕ) → PrintsName r.name name
      → PrintsRecord label (Some r) (label ++ codes " " ++ name ++ type_and_class r.rtype r.class
      ++ codes " ttl " ++ decimal r.ttl ++ codes " data " ++ data_text r.rdata ++ newline)

-- the word for a message
abbrev pub message_word : MessageValue → List ℕ
message_word (registration r) = codes "registration"
message_word (overwrite r) = codes "overwrite"
message_word (refresh r) = codes "refresh"
message_word (release id name kind addr) = codes "release"
message_word (query id name) = codes "query"
message_word (status_request id name) = codes "status-request"
message_word (registered rcode r) = codes "registered"
message_word (released id rcode name kind addr) = codes "released"
message_word (found id name ttl entries cut) = codes "found"
message_word (not_found id rcode name) = codes "not-found"
message_word (status id name names) = codes "status"
message_word (wait id name ttl) = codes "wait"

-- The word of the message that the packet spells, or `none`.
pub data PrintsMessage (packet : PacketValue) : List ℕ → Type 0 where
  its_word : (message : MessageValue) → MessageIs packet message → PrintsMessage packet (message_word message)
  no_message : ((message : MessageValue) → ¬ MessageIs packet message) → PrintsMessage packet (codes "none")

pub record PrintsPacket (packet : PacketValue) (text : List ℕ) : Type 0 where
  pub question : List ℕ
  pub answer : List ℕ
  pub additional : List ℕ
  pub word : List ℕ
  pub question_is : PrintsQuestion packet.question question
  pub answer_is : PrintsRecord (codes "answer") packet.answer answer
  pub additional_is : PrintsRecord (codes "additional") packet.additional additional
  pub word_is : PrintsMessage packet word
  pub text_is : text ≡ codes "id " ++ four_digits packet.id ++ codes " flags " ++ four_digits packet.flags ++ newline
      ++ question ++ answer ++ additional ++ codes "message " ++ word ++ newline

-- What is printed of octets, and whether a packet stands there: its parts and how many octets it takes, or its fault.
pub data PrintsOctets (octets : List ℕ) : Bool → List ℕ → Type 0 where
  packet_stands : (packet : PacketValue) (taken : ℕ) (parts : List ℕ) → PacketIs octets packet taken
      → PrintsPacket packet parts
      → PrintsOctets octets true (parts ++ codes "length " ++ decimal taken ++ newline)
  fault_stands : (fault : Fault) → PacketFault octets fault
      → PrintsOctets octets false (codes "fault " ++ fault_word fault.kind ++ codes " at " ++ decimal fault.place ++ newline)
