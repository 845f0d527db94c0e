-- The one written form of each message: RFC 1002 sections 4.2.2 to 4.2.18.
use Rattle.std.specs.Prelude.{ℕ, ◌+◌, ◌-◌, ◌/◌, Bool, true, false, List, [], ◌∷◌, ◌++◌, length, Some, None, replicate}
use Rattle.nbt_name.specs.Wire.{wire, wire_size}
use Rattle.nbt_name.specs.Words.{word, long}
use Rattle.nbt_packet.specs.Message.{Kind, Unique, Group, NameValue, Registration, MessageValue, registration, overwrite, refresh, release, query, status_request, registered, released, found, not_found, status, wait, nb, nbstat, null, internet}

-- the six words
abbrev pub header : (id flags questions answers additionals : ℕ) → List ℕ
header id flags questions answers additionals =
    word id ++ word flags ++ word questions ++ word answers ++ word 0 ++ word additionals

-- a type, the class IN, a TTL, and RDATA after its length
abbrev pub record_fields : (rtype ttl : ℕ) → List ℕ → List ℕ
record_fields rtype ttl rdata = word rtype ++ word internet ++ long ttl ++ word (length rdata) ++ rdata

-- an entry of a P node
abbrev pub entry : Kind → ℕ → List ℕ
entry Unique addr = 0x20 ∷ 0 ∷ long addr
entry Group addr = 0xA0 ∷ 0 ∷ long addr

-- an active name of a P node, in a node status
abbrev pub status_name : List ℕ → Kind → List ℕ
status_name octets Unique = octets ++ 0x24 ∷ 0 ∷ []
status_name octets Group = octets ++ 0xA4 ∷ 0 ∷ []

abbrev pub question_octets : (id flags rtype : ℕ) → NameValue → List ℕ
question_octets id flags rtype name = header id flags 1 0 0 ++ (wire name ++ word rtype ++ word internet)

-- a question, and an additional record whose name is a pointer to the question's
abbrev pub claim_octets : (flags : ℕ) → Registration → List ℕ
claim_octets flags r =
    header r.id flags 1 0 1 ++ (wire r.name ++ word nb ++ word internet)
    ++ (0xC0 ∷ 0x0C ∷ record_fields nb r.ttl (entry r.kind r.addr))

abbrev pub answer_octets : (id flags : ℕ) → NameValue → (rtype ttl : ℕ) → List ℕ → List ℕ
answer_octets id flags name rtype ttl rdata = header id flags 0 1 0 ++ (wire name ++ record_fields rtype ttl rdata)

-- AA, RD and RA, and TC where the entries are cut
abbrev pub found_flags : (cut : Bool) → ℕ
found_flags false = 0x8580
found_flags true = 0x8780

abbrev pub text : MessageValue → List ℕ
text (registration r) = claim_octets 0x2900 r
text (overwrite r) = claim_octets 0x2800 r
text (refresh r) = claim_octets 0x4000 r
text (release id name kind addr) = claim_octets 0x3000 (record { id = id; name = name; kind = kind; addr = addr; ttl = 0 })
text (query id name) = question_octets id 0x0100 nb name
text (status_request id name) = question_octets id 0 nbstat name
text (registered rcode r) = answer_octets r.id (0xAD80 + rcode) r.name nb r.ttl (entry r.kind r.addr)
text (released id rcode name kind addr) = answer_octets id (0xB400 + rcode) name nb 0 (entry kind addr)
text (found id name ttl entries cut) = answer_octets id (found_flags cut) name nb ttl entries
text (not_found id rcode None) = header id (0x8580 + rcode) 0 0 0
text (not_found id rcode (Some name)) = answer_octets id (0x8580 + rcode) name null 0 []
text (status id name names) = answer_octets id 0x8400 name nbstat 0 (length names / 18 ∷ names ++ replicate 46 0)
text (wait id name ttl) = answer_octets id 0xBC00 name nb ttl (0x29 ∷ 0x00 ∷ [])

-- ---- how long a written form is

abbrev pub size_of : MessageValue → ℕ
size_of (registration r) = 34 + wire_size r.name
size_of (overwrite r) = 34 + wire_size r.name
size_of (refresh r) = 34 + wire_size r.name
size_of (release id name kind addr) = 34 + wire_size name
size_of (query id name) = 16 + wire_size name
size_of (status_request id name) = 16 + wire_size name
size_of (registered rcode r) = 28 + wire_size r.name
size_of (released id rcode name kind addr) = 28 + wire_size name
size_of (found id name ttl entries cut) = 22 + wire_size name + length entries
size_of (not_found id rcode None) = 12
size_of (not_found id rcode (Some name)) = 22 + wire_size name
size_of (status id name names) = 69 + wire_size name + length names
size_of (wait id name ttl) = 24 + wire_size name

-- the most entries of six octets that fit in a response of 576 octets, beside its name's wire form and 22 octets
-- of header and record fields
abbrev pub entries_most : NameValue → ℕ
entries_most name = (576 - 22 - length (wire name)) / 6
