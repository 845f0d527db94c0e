-- Messages, and the table of the packets that spell them: RFC 1002 sections 4.2.2 to 4.2.18.
use Rattle.std.specs.Prelude.{◌≡◌, ◌≢◌, ℕ, ◌+◌, ◌*◌, ◌/◌, ◌%◌, ◌^◌, ◌<◌, ◌≤◌, ◌↔◌, ◌⊎◌, Bool, IsTrue, List, length, slice_index, slice_range, Option, Some, None, nat_lt, if◌then◌else◌}
pub use Rattle.nbt_name.specs.declared.addr.Kind.{Kind}
pub use Rattle.nbt_name.specs.declared.addr.Kind.TheVariants.{Unique, Group}
pub use Rattle.nbt_name.specs.Wire.{NameValue, IsName, AreOctets}
use Rattle.nbt_packet.specs.declared.message.Message.{Message}
use Rattle.nbt_packet.specs.declared.message.Message.TheVariants as m
pub use Rattle.nbt_packet.specs.declared.message.Registration.{Registration}
pub use Rattle.nbt_packet.specs.declared.packet.Question.{Question}
use Rattle.nbt_name.specs.Words.{long_at}
use Rattle.nbt_packet.specs.Packet.{PacketValue, RecordValue}

-- A message, without where its octets lie in memory.
pub data MessageValue : Type 0 where
  registration : Registration → MessageValue
  overwrite : Registration → MessageValue
  refresh : Registration → MessageValue
  release : (id : ℕ) (name : NameValue) (kind : Kind) (addr : ℕ) → MessageValue
  query : (id : ℕ) (name : NameValue) → MessageValue
  status_request : (id : ℕ) (name : NameValue) → MessageValue
  registered : (rcode : ℕ) → Registration → MessageValue
  released : (id rcode : ℕ) (name : NameValue) (kind : Kind) (addr : ℕ) → MessageValue
  found : (id : ℕ) (name : NameValue) (ttl : ℕ) (entries : List ℕ) (cut : Bool) → MessageValue
  not_found : (id rcode : ℕ) (name : Option NameValue) → MessageValue
  status : (id : ℕ) (name : NameValue) (names : List ℕ) → MessageValue
  wait : (id : ℕ) (name : NameValue) (ttl : ℕ) → MessageValue

-- ---- the flags' word: R, OPCODE, TC, RD, RA, B and RCODE (RFC 1002 section 4.2.1.1)

-- R clear, and R set
abbrev pub IsRequest : ℕ → Type 0
IsRequest flags = flags < 0x8000

abbrev pub IsResponse : ℕ → Type 0
IsResponse flags = 0x8000 ≤ flags

abbrev pub opcode_of : ℕ → ℕ
opcode_of flags = flags / 0x800 % 16

-- TC set: there is more than the packet has
abbrev pub IsTruncated : ℕ → Type 0
IsTruncated flags = flags / 0x200 % 2 ≡ 1

-- RD set, and RA set
abbrev pub DesiresRecursion : ℕ → Type 0
DesiresRecursion flags = flags / 0x100 % 2 ≡ 1

abbrev pub OffersRecursion : ℕ → Type 0
OffersRecursion flags = flags / 0x80 % 2 ≡ 1

-- B clear: unicast
abbrev pub IsUnicast : ℕ → Type 0
IsUnicast flags = flags / 0x10 % 2 ≡ 0

abbrev pub rcode_of : ℕ → ℕ
rcode_of flags = flags % 16

-- a unicast request, or response, of this OPCODE
pub record Requests (flags opcode : ℕ) : Type 0 where
  pub request : IsRequest flags
  pub opcode_is : opcode_of flags ≡ opcode
  pub unicast : IsUnicast flags

pub record Responds (flags opcode : ℕ) : Type 0 where
  pub response : IsResponse flags
  pub opcode_is : opcode_of flags ≡ opcode
  pub unicast : IsUnicast flags

-- a positive response of OPCODE 5 with RA clear is an end node's challenge, which is no message of ours
pub record IsChallenge (flags : ℕ) : Type 0 where
  pub opcode_is : opcode_of flags ≡ 5
  pub positive : rcode_of flags ≡ 0
  pub end_node : ¬ OffersRecursion flags

-- ---- types and the class (RFC 1002 section 4.2.1.3)

abbrev pub nb : ℕ
nb = 0x0020

abbrev pub nbstat : ℕ
nbstat = 0x0021

abbrev pub null : ℕ
null = 0x000A

abbrev pub internet : ℕ
internet = 1

-- a question and a record of class IN
abbrev pub internet_question : NameValue → ℕ → Question
internet_question name rtype = record { name = name; rtype = rtype; class = internet }

abbrev pub internet_record : NameValue → (rtype ttl : ℕ) → List ℕ → RecordValue
internet_record name rtype ttl rdata = record { name = name; rtype = rtype; class = internet; ttl = ttl; rdata = rdata }

-- ---- the sections that a packet has

-- a question alone
pub record Asks (p : PacketValue) (question : Question) : Type 0 where
  pub question_is : p.question ≡ Some question
  pub no_answer : p.answer ≡ None
  pub no_additional : p.additional ≡ None

-- a question and an additional record
pub record Claims (p : PacketValue) (question : Question) (additional : RecordValue) : Type 0 where
  pub question_is : p.question ≡ Some question
  pub no_answer : p.answer ≡ None
  pub additional_is : p.additional ≡ Some additional

-- an answer alone
pub record Answers (p : PacketValue) (answer : RecordValue) : Type 0 where
  pub no_question : p.question ≡ None
  pub answer_is : p.answer ≡ Some answer
  pub no_additional : p.additional ≡ None

-- none
pub record IsBare (p : PacketValue) : Type 0 where
  pub no_question : p.question ≡ None
  pub no_answer : p.answer ≡ None
  pub no_additional : p.additional ≡ None

-- ---- RDATA

-- one entry of six octets: NB_FLAGS, of which only G is looked at, and an address
abbrev pub kind_in : List ℕ → Kind
kind_in rdata = if nat_lt (slice_index rdata 0) 0x80 then Unique else Group

pub record IsEntry (rdata : List ℕ) (kind : Kind) (addr : ℕ) : Type 0 where
  pub six : length rdata ≡ 6
  pub kind_is : kind ≡ kind_in rdata
  pub addr_is : addr ≡ long_at rdata 2

-- one entry or more
abbrev pub AreEntries : List ℕ → Type 0
AreEntries rdata = (0 < length rdata) × (length rdata % 6 ≡ 0)

-- NUM_NAMES, as many names of 18 octets, and what is not looked at
pub record HoldsNames (rdata names : List ℕ) : Type 0 where
  pub counted : 0 < length rdata
  pub whole : 1 + 18 * slice_index rdata 0 ≤ length rdata
  pub names_are : names ≡ slice_range rdata 1 (1 + 18 * slice_index rdata 0)

-- a question and an additional record of one name, with one entry
pub record ClaimsEntry (p : PacketValue) (r : Registration) : Type 0 where
  pub rdata : List ℕ
  pub id : p.id ≡ r.id
  pub claims : Claims p (internet_question r.name nb) (internet_record r.name nb r.ttl rdata)
  pub entry : IsEntry rdata r.kind r.addr

-- an answer with one entry
pub record AnswersEntry (p : PacketValue) (r : Registration) : Type 0 where
  pub rdata : List ℕ
  pub id : p.id ≡ r.id
  pub answers : Answers p (internet_record r.name nb r.ttl rdata)
  pub entry : IsEntry rdata r.kind r.addr

-- the name of an answer of any type, or no section and no name
abbrev pub GivesName : PacketValue → Option NameValue → Type 0
GivesName p None = IsBare p
GivesName p (Some name) = (answer : RecordValue) × Answers p answer × (answer.name ≡ name)

-- ---- the table

abbrev pub MessageIs : PacketValue → MessageValue → Type 0
MessageIs p (registration r) = Requests p.flags 5 × DesiresRecursion p.flags × ClaimsEntry p r
MessageIs p (overwrite r) = Requests p.flags 5 × (¬ DesiresRecursion p.flags) × ClaimsEntry p r
MessageIs p (refresh r) = (Requests p.flags 8 ⊎ Requests p.flags 9) × ClaimsEntry p r
MessageIs p (release id name kind addr) =
    Requests p.flags 6 × (ttl : ℕ) × ClaimsEntry p (record { id = id; name = name; kind = kind; addr = addr; ttl = ttl })
MessageIs p (query id name) = (p.id ≡ id) × Requests p.flags 0 × Asks p (internet_question name nb)
MessageIs p (status_request id name) =
    (p.id ≡ id) × IsRequest p.flags × (opcode_of p.flags ≡ 0) × Asks p (internet_question name nbstat)
MessageIs p (registered rcode r) =
    (Responds p.flags 5 ⊎ (Responds p.flags 8 ⊎ Responds p.flags 9)) × (¬ IsChallenge p.flags)
    × (rcode ≡ rcode_of p.flags) × AnswersEntry p r
MessageIs p (released id rcode name kind addr) =
    Responds p.flags 6 × (rcode ≡ rcode_of p.flags)
    × (ttl : ℕ) × AnswersEntry p (record { id = id; name = name; kind = kind; addr = addr; ttl = ttl })
MessageIs p (found id name ttl entries cut) =
    (p.id ≡ id) × Responds p.flags 0 × (rcode_of p.flags ≡ 0) × (IsTrue cut ↔ IsTruncated p.flags)
    × Answers p (internet_record name nb ttl entries) × AreEntries entries
MessageIs p (not_found id rcode name) =
    (p.id ≡ id) × Responds p.flags 0 × (rcode ≡ rcode_of p.flags) × (rcode ≢ 0) × GivesName p name
MessageIs p (status id name names) =
    (p.id ≡ id) × Responds p.flags 0 × (rcode_of p.flags ≡ 0)
    × (ttl : ℕ) × (rdata : List ℕ) × Answers p (internet_record name nbstat ttl rdata) × HoldsNames rdata names
MessageIs p (wait id name ttl) =
    (p.id ≡ id) × Responds p.flags 7
    × (answer : RecordValue) × Answers p answer × (answer.name ≡ name) × (answer.ttl ≡ ttl)

-- ---- which messages have a written form

-- the numbers that a message holds are an id, an address and a TTL, its name is a name, and its octets are octets
abbrev pub IsRegistration : Registration → Type 0
IsRegistration r = (r.id < 2 ^ 16) × IsName r.name × (r.addr < 2 ^ 32) × (r.ttl < 2 ^ 32)

abbrev pub HoldsNumbers : MessageValue → Type 0
HoldsNumbers (registration r) = IsRegistration r
HoldsNumbers (overwrite r) = IsRegistration r
HoldsNumbers (refresh r) = IsRegistration r
HoldsNumbers (release id name kind addr) = (id < 2 ^ 16) × IsName name × (addr < 2 ^ 32)
HoldsNumbers (query id name) = (id < 2 ^ 16) × IsName name
HoldsNumbers (status_request id name) = (id < 2 ^ 16) × IsName name
HoldsNumbers (registered rcode r) = IsRegistration r
HoldsNumbers (released id rcode name kind addr) = (id < 2 ^ 16) × IsName name × (addr < 2 ^ 32)
HoldsNumbers (found id name ttl entries cut) = (id < 2 ^ 16) × IsName name × (ttl < 2 ^ 32) × AreOctets entries
HoldsNumbers (not_found id rcode None) = id < 2 ^ 16
HoldsNumbers (not_found id rcode (Some name)) = (id < 2 ^ 16) × IsName name
HoldsNumbers (status id name names) = (id < 2 ^ 16) × IsName name × AreOctets names
HoldsNumbers (wait id name ttl) = (id < 2 ^ 16) × IsName name × (ttl < 2 ^ 32)

-- an RCODE of four bits, one to 10,922 entries, and at most 255 names
abbrev pub Fits : MessageValue → Type 0
Fits (registered rcode r) = rcode ≤ 15
Fits (released id rcode name kind addr) = rcode ≤ 15
Fits (found id name ttl entries cut) = (0 < length entries) × (length entries ≤ 6 * 10922) × (length entries % 6 ≡ 0)
Fits (not_found id rcode name) = (0 < rcode) × (rcode ≤ 15)
Fits (status id name names) = (length names ≤ 18 * 255) × (length names % 18 ≡ 0)
Fits _ = Unit {0}

-- ---- what the code holds, as a value

abbrev pub message_of : Message → MessageValue
message_of (m.Registration r) = registration r
message_of (m.Overwrite r) = overwrite r
message_of (m.Refresh r) = refresh r
message_of (m.Release id name kind addr) = release id name kind addr
message_of (m.Query id name) = query id name
message_of (m.StatusRequest id name) = status_request id name
message_of (m.Registered rcode r) = registered rcode r
message_of (m.Released id rcode name kind addr) = released id rcode name kind addr
message_of (m.Found id name ttl entries cut) = found id name ttl entries.now cut
message_of (m.NotFound id rcode name) = not_found id rcode name
message_of (m.Status id name names) = status id name names.now
message_of (m.Wait id name ttl) = wait id name ttl

abbrev pub message_if : Option Message → Option MessageValue
message_if None = None
message_if (Some message) = Some (message_of message)
