-- How long written forms are.
use Rattle.std.proofs.Common.{◌≡◌, ◌≤◌, ℕ, ◌+◌, ◌/◌, List, [], ◌∷◌, ◌++◌, length, Some, None, refl, arith}
use Rattle.nbt_packet.proofs.Common.{replicate, length-append, Kind, Unique, Group, NameValue, IsName, wire, wire_size, Registration, word, MessageValue, HoldsNumbers, registration, overwrite, refresh, release, query, status_request, registered, released, found, not_found, status, wait, nb, nbstat, null, internet, header, record_fields, entry, question_octets, claim_octets, answer_octets, found_flags, text, size_of, HasFewRows}
use Rattle.nbt_name.proofs.Fits.{length-wire}

pub length-entry : (kind : Kind) (addr : ℕ) → length (entry kind addr) ≡ 6
length-entry Unique addr = refl
length-entry Group addr = refl

length-asking : (id flags rtype : ℕ) (n : NameValue) → IsName n → length (question_octets id flags rtype n) ≡ 16 + wire_size n
length-asking id flags rtype n is =
    omega (arith, length-append (header id flags 1 0 0) (wire n ++ word rtype ++ word internet), length-append (wire n ++ word rtype) (word internet), length-append (wire n) (word rtype), length-wire n is)

length-claiming : (flags : ℕ) (r : Registration) → IsName r.name → length (claim_octets flags r) ≡ 34 + wire_size r.name
length-claiming flags r is =
    omega (
      arith,
      length-append (header r.id flags 1 0 1 ++ (wire r.name ++ word nb ++ word internet)) (0xC0 ∷ 0x0C ∷ record_fields nb r.ttl (entry r.kind r.addr)),
      length-append (header r.id flags 1 0 1) (wire r.name ++ word nb ++ word internet),
      length-append (wire r.name ++ word nb) (word internet),
      length-append (wire r.name) (word nb),
      length-wire r.name is,
      length-entry r.kind r.addr,
    )

length-answering : (id flags : ℕ) (n : NameValue) (rtype ttl : ℕ) (rdata : List ℕ) → IsName n → length (answer_octets id flags n rtype ttl rdata) ≡ 22 + wire_size n + length rdata
length-answering id flags n rtype ttl rdata is =
    omega (arith, length-append (header id flags 0 1 0) (wire n ++ record_fields rtype ttl rdata), length-append (wire n) (record_fields rtype ttl rdata), length-wire n is)

pub length-text : (m : MessageValue) → HoldsNumbers m → length (text m) ≡ size_of m
length-text (registration r) holds = length-claiming 0x2900 r holds.1
length-text (overwrite r) holds = length-claiming 0x2800 r holds.1
length-text (refresh r) holds = length-claiming 0x4000 r holds.1
length-text (release id name kind addr) holds = length-claiming 0x3000 (record { id = id; name = name; kind = kind; addr = addr; ttl = 0 }) holds.1
length-text (query id name) holds = length-asking id 0x0100 nb name holds.1
length-text (status_request id name) holds = length-asking id 0 nbstat name holds.1
length-text (registered rcode r) holds = omega (arith, length-answering r.id (0xAD80 + rcode) r.name nb r.ttl (entry r.kind r.addr) holds.1, length-entry r.kind r.addr)
length-text (released id rcode name kind addr) holds = omega (arith, length-answering id (0xB400 + rcode) name nb 0 (entry kind addr) holds.1, length-entry kind addr)
length-text (found id name ttl entries cut) holds = length-answering id (found_flags cut) name nb ttl entries holds.1
length-text (not_found id rcode None) holds = refl
length-text (not_found id rcode (Some name)) holds = omega (arith, length-answering id (0x8580 + rcode) name null 0 [] holds.1)
length-text (status id name names) holds =
    omega (arith, length-answering id 0x8400 name nbstat 0 (length names / 18 ∷ names ++ replicate 46 0) holds.1, length-append (length names / 18 ∷ names) (replicate 46 0))
length-text (wait id name ttl) holds = omega (arith, length-answering id 0xBC00 name nb ttl (0x29 ∷ 0x00 ∷ []) holds.1)

-- with a scope of at most 221 octets, and few rows
pub few_rows : (m : MessageValue) → HoldsNumbers m → HasFewRows m → length (text m) ≤ 576
few_rows m holds few = rw (length-text m holds) (size_small m holds few)
  where
    size_small : (m : MessageValue) → HoldsNumbers m → HasFewRows m → size_of m ≤ 576
    size_small (found id name ttl entries cut) holds few = omega (arith, holds.1.fits, length-wire name holds.1, few)
    size_small (not_found id rcode None) holds few = omega arith
    size_small (status id name names) holds few = omega (arith, holds.1.fits, few)
    size_small m holds few = omega (arith, holds.1.fits)
