-- Name service packets, and what octets can have wrong: RFC 1002 section 4.2.1.
use Rattle.std.specs.Prelude.{◌≡◌, ℕ, ◌+◌, ◌<◌, ◌≤◌, List, length, slice_range, Option, Some, None, Result, Ok, Err}
use Rattle.nbt_name.specs.declared.fault.NameFault.{NameFault}
use Rattle.nbt_name.specs.Wire.{NameValue}
use Rattle.nbt_name.specs.Reading.{NameAt, FaultAt}
use Rattle.nbt_packet.specs.declared.fault.Fault.{Fault}
use Rattle.nbt_packet.specs.declared.packet.Question.{Question}
use Rattle.nbt_packet.specs.declared.packet.Record.{Record}
use Rattle.nbt_packet.specs.declared.packet.Packet.{Packet}
use Rattle.nbt_packet.specs.Numbers.{fault_of, short, too_many}
use Rattle.nbt_name.specs.Words.{word_at, long_at}

-- A record, without where its RDATA lies in memory.
pub record RecordValue : Type 0 where
  pub name : NameValue
  pub rtype : ℕ
  pub class : ℕ
  pub ttl : ℕ
  pub rdata : List ℕ

-- A packet: its id and flags, and the sections that it has.
pub record PacketValue : Type 0 where
  pub id : ℕ
  pub flags : ℕ
  pub question : Option Question
  pub answer : Option RecordValue
  pub additional : Option RecordValue

-- ---- the sections

-- A question stands at a place: a name, and after it its type and its class.
pub record QuestionAt (octets : List ℕ) (place : ℕ) (q : Question) (next : ℕ) : Type 0 where
  pub named : ℕ
  pub name : NameAt octets place q.name named
  pub fits : named + 4 ≤ length octets
  pub rtype : q.rtype ≡ word_at octets named
  pub class : q.class ≡ word_at octets (named + 2)
  pub next_is : next ≡ named + 4

-- A record stands at a place: a name, its type, its class, its TTL, and RDATA after its length.
pub record RecordAt (octets : List ℕ) (place : ℕ) (r : RecordValue) (next : ℕ) : Type 0 where
  pub named : ℕ
  pub name : NameAt octets place r.name named
  pub fits : named + 10 ≤ length octets
  pub rtype : r.rtype ≡ word_at octets named
  pub class : r.class ≡ word_at octets (named + 2)
  pub ttl : r.ttl ≡ long_at octets (named + 4)
  pub whole : named + 10 + word_at octets (named + 8) ≤ length octets
  pub rdata : r.rdata ≡ slice_range octets (named + 10) (named + 10 + word_at octets (named + 8))
  pub next_is : next ≡ named + 10 + word_at octets (named + 8)

-- A section with its count: nothing, or one.
abbrev pub SectionAt : {X : Type 0} → (ℕ → X → ℕ → Type 0) → ℕ → ℕ → Option X → ℕ → Type 0
SectionAt At count place None next = (count ≡ 0) × (next ≡ place)
SectionAt At count place (Some x) next = (count ≡ 1) × At place x next

-- ---- the header

-- The counts: where each stands, and the most that it may be.
pub data Count : ℕ → ℕ → Type 0 where
  questions : Count 4 1
  answers : Count 6 1
  authorities : Count 8 0
  additionals : Count 10 1

-- no count that stands whole before `end` is too great
abbrev pub CountsFit : List ℕ → ℕ → Type 0
CountsFit octets end = (place most : ℕ) → Count place most → place + 2 ≤ end → word_at octets place ≤ most

abbrev pub IsHeader : List ℕ → Type 0
IsHeader octets = (12 ≤ length octets) × CountsFit octets 12

-- ---- packets and their faults

-- The octets begin with a packet of n octets: six words, then the sections that they count, in order.
pub record PacketIs (octets : List ℕ) (packet : PacketValue) (n : ℕ) : Type 0 where
  pub asked : ℕ
  pub answered : ℕ
  pub header : IsHeader octets
  pub id : packet.id ≡ word_at octets 0
  pub flags : packet.flags ≡ word_at octets 2
  pub question : SectionAt (QuestionAt octets) (word_at octets 4) 12 packet.question asked
  pub answer : SectionAt (RecordAt octets) (word_at octets 6) asked packet.answer answered
  pub additional : SectionAt (RecordAt octets) (word_at octets 10) answered packet.additional n

-- A question's place has a fault: in its name, or after it, where the octets end.
pub data QuestionFault (octets : List ℕ) (place : ℕ) : Fault → Type 0 where
  question_name : (fault : NameFault) → FaultAt octets place fault → QuestionFault octets place (fault_of fault)
  question_cut : (name : NameValue) (named : ℕ) → NameAt octets place name named
      → length octets < named + 4 → QuestionFault octets place (short octets)

pub data RecordFault (octets : List ℕ) (place : ℕ) : Fault → Type 0 where
  record_name : (fault : NameFault) → FaultAt octets place fault → RecordFault octets place (fault_of fault)
  record_cut : (name : NameValue) (named : ℕ) → NameAt octets place name named
      → length octets < named + 10 → RecordFault octets place (short octets)
  rdata_cut : (name : NameValue) (named : ℕ) → NameAt octets place name named → named + 10 ≤ length octets
      → length octets < named + 10 + word_at octets (named + 8) → RecordFault octets place (short octets)

-- The octets have a fault: the parts before one stand, and that one is cut, is a count too great, or has a bad name.
pub data PacketFault (octets : List ℕ) : Fault → Type 0 where
  header_cut : length octets < 12 → CountsFit octets (length octets) → PacketFault octets (short octets)
  count_great : (place most : ℕ) → Count place most → place + 2 ≤ length octets → most < word_at octets place
      → CountsFit octets place → PacketFault octets (too_many place)
  question_bad : (fault : Fault) → IsHeader octets → word_at octets 4 ≡ 1 → QuestionFault octets 12 fault
      → PacketFault octets fault
  answer_bad : (fault : Fault) (question : Option Question) (asked : ℕ) → IsHeader octets
      → SectionAt (QuestionAt octets) (word_at octets 4) 12 question asked
      → word_at octets 6 ≡ 1 → RecordFault octets asked fault → PacketFault octets fault
  additional_bad : (fault : Fault) (question : Option Question) (answer : Option RecordValue) (asked answered : ℕ)
      → IsHeader octets → SectionAt (QuestionAt octets) (word_at octets 4) 12 question asked
      → SectionAt (RecordAt octets) (word_at octets 6) asked answer answered
      → word_at octets 10 ≡ 1 → RecordFault octets answered fault → PacketFault octets fault

-- ---- what the code holds, as values

abbrev pub record_of : Record → RecordValue
record_of r = record { name = r.name; rtype = r.rtype; class = r.class; ttl = r.ttl; rdata = r.rdata.now }

abbrev pub record_if : Option Record → Option RecordValue
record_if None = None
record_if (Some r) = Some (record_of r)

abbrev pub packet_of : Packet → PacketValue
packet_of p = record {
  id = p.id;
  flags = p.flags;
  question = p.question;
  answer = record_if p.answer;
  additional = record_if p.additional;
}

abbrev pub decoded : Result (Packet × ℕ) Fault → Result (PacketValue × ℕ) Fault
decoded (Ok read) = Ok (packet_of read.0, read.1)
decoded (Err fault) = Err fault
