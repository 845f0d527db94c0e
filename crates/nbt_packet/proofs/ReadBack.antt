-- The written form of each message that fits is a packet that spells it.
use Rattle.std.proofs.Common.{◌≡◌, true, false, ℕ, ◌+◌, ◌*◌, ◌-◌, ◌/◌, ◌%◌, ◌<◌, ◌≤◌, ◌^◌, List, [], ◌∷◌, ◌++◌, length, replicate, Some, None, refl, sym, arith, inl}
use Rattle.nbt_packet.proofs.Common.{slice_range, length-append, take_at, Kind, Unique, Group, NameValue, Registration, PacketValue, PacketIs, MessageValue, registration, overwrite, refresh, release, query, status_request, registered, released, found, not_found, status, wait, nb, nbstat, null, internet_record, IsChallenge, IsEntry, Answers, ClaimsEntry, AnswersEntry, HoldsNumbers, Fits, MessageIs, entry, text}
use Rattle.nbt_name.proofs.Behind.{long_back}
use Rattle.nbt_packet.proofs.Shapes.{asked_packet, bare_packet, answer_packet, claim_packet, asking_is, bare_is, answering_is, claiming_is}

-- ---- the parts of the table

entry_is : (kind : Kind) (addr : ℕ) → addr < 2 ^ 32 → IsEntry (entry kind addr) kind addr
entry_is Unique addr fits = record { six = refl; kind_is = refl; addr_is = sym (long_back addr [] fits) }
entry_is Group addr fits = record { six = refl; kind_is = refl; addr_is = sym (long_back addr [] fits) }

entry_short : (kind : Kind) (addr : ℕ) → length (entry kind addr) < 2 ^ 16
entry_short Unique addr = omega arith
entry_short Group addr = omega arith

claims_it : (flags : ℕ) (r : Registration) → r.addr < 2 ^ 32 → ClaimsEntry (claim_packet flags r) r
claims_it flags r fits = record { rdata = entry r.kind r.addr; id = refl; claims = record { question_is = refl; no_answer = refl; additional_is = refl }; entry = entry_is r.kind r.addr fits }

answers_it : (id flags : ℕ) (name : NameValue) (rtype ttl : ℕ) (rdata : List ℕ) → Answers (answer_packet id flags name rtype ttl rdata) (internet_record name rtype ttl rdata)
answers_it id flags name rtype ttl rdata = record { no_question = refl; answer_is = refl; no_additional = refl }

answers_entry : (flags : ℕ) (r : Registration) → r.addr < 2 ^ 32 → AnswersEntry (answer_packet r.id flags r.name nb r.ttl (entry r.kind r.addr)) r
answers_entry flags r fits = record { rdata = entry r.kind r.addr; id = refl; answers = answers_it r.id flags r.name nb r.ttl (entry r.kind r.addr); entry = entry_is r.kind r.addr fits }

no_challenge : (rcode : ℕ) → rcode ≤ 15 → ¬ IsChallenge (0xAD80 + rcode)
no_challenge rcode most challenge = challenge.end_node (omega arith)

-- ---- the names of a node status

names_of : List ℕ → List ℕ
names_of names = length names / 18 ∷ names ++ replicate 46 0

whole_names : (names : List ℕ) → length names % 18 ≡ 0 → 18 * (length names / 18) ≡ length names
whole_names names whole = omega arith

names_short : (names : List ℕ) → length names ≤ 18 * 255 → length (names_of names) < 2 ^ 16
unfolding names_of
names_short names most = omega (arith, length-append names (replicate 46 0))

names_within : (names : List ℕ) → length names % 18 ≡ 0 → 1 + 18 * (length names / 18) ≤ length (names_of names)
unfolding names_of
names_within names whole = omega (arith, whole_names names whole, length-append names (replicate 46 0))

names_are : (names : List ℕ) → length names % 18 ≡ 0 → names ≡ slice_range (names_of names) 1 (1 + 18 * (length names / 18))
unfolding names_of
names_are names whole =
    let count : (1 + 18 * (length names / 18)) - 1 ≡ length names = omega (arith, whole_names names whole) in
    rw count (sym (take_at names (replicate 46 0) (length names) refl))

-- ---- the table

pub text_is_read : (m : MessageValue) (rest : List ℕ) → HoldsNumbers m → Fits m → (p : PacketValue) × PacketIs (text m ++ rest) p (length (text m)) × MessageIs p m
unfolding names_of
text_is_read (registration r) rest (id, name, addr, ttl) fits = (
  claim_packet 0x2900 r,
  claiming_is 0x2900 r rest id (omega arith) name ttl (entry_short r.kind r.addr),
  (record { request = omega arith; opcode_is = refl; unicast = refl }, refl, claims_it 0x2900 r addr),
)
text_is_read (overwrite r) rest (id, name, addr, ttl) fits = (
  claim_packet 0x2800 r,
  claiming_is 0x2800 r rest id (omega arith) name ttl (entry_short r.kind r.addr),
  (record { request = omega arith; opcode_is = refl; unicast = refl }, λ desired. omega arith, claims_it 0x2800 r addr),
)
text_is_read (refresh r) rest (id, name, addr, ttl) fits = (
  claim_packet 0x4000 r,
  claiming_is 0x4000 r rest id (omega arith) name ttl (entry_short r.kind r.addr),
  (inl (record { request = omega arith; opcode_is = refl; unicast = refl }), claims_it 0x4000 r addr),
)
text_is_read (release id name kind addr) rest (id_fits, is_name, addr_fits) fits =
    let r : Registration = record { id = id; name = name; kind = kind; addr = addr; ttl = 0 } in
    (claim_packet 0x3000 r, claiming_is 0x3000 r rest id_fits (omega arith) is_name (omega arith) (entry_short kind addr), (record { request = omega arith; opcode_is = refl; unicast = refl }, 0, claims_it 0x3000 r addr_fits))
text_is_read (query id name) rest (id_fits, is_name) fits = (
  asked_packet id 0x0100 nb name,
  asking_is id 0x0100 nb name rest id_fits (omega arith) (omega arith) is_name,
  (refl, record { request = omega arith; opcode_is = refl; unicast = refl }, record { question_is = refl; no_answer = refl; no_additional = refl }),
)
text_is_read (status_request id name) rest (id_fits, is_name) fits = (
  asked_packet id 0 nbstat name,
  asking_is id 0 nbstat name rest id_fits (omega arith) (omega arith) is_name,
  (refl, omega arith, refl, record { question_is = refl; no_answer = refl; no_additional = refl }),
)
text_is_read (registered rcode r) rest (id, name, addr, ttl) fits = (
  answer_packet r.id (0xAD80 + rcode) r.name nb r.ttl (entry r.kind r.addr),
  answering_is r.id (0xAD80 + rcode) r.name nb r.ttl (entry r.kind r.addr) rest id (omega arith) name (omega arith) ttl (entry_short r.kind r.addr),
  (inl (record { response = omega arith; opcode_is = omega arith; unicast = omega arith }), no_challenge rcode fits, omega arith, answers_entry (0xAD80 + rcode) r addr),
)
text_is_read (released id rcode name kind addr) rest (id_fits, is_name, addr_fits) fits = (
  answer_packet id (0xB400 + rcode) name nb 0 (entry kind addr),
  answering_is id (0xB400 + rcode) name nb 0 (entry kind addr) rest id_fits (omega arith) is_name (omega arith) (omega arith) (entry_short kind addr),
  (
    record { response = omega arith; opcode_is = omega arith; unicast = omega arith },
    omega arith,
    0,
    answers_entry (0xB400 + rcode) (record { id = id; name = name; kind = kind; addr = addr; ttl = 0 }) addr_fits,
  ),
)
text_is_read (found id name ttl entries false) rest (id_fits, is_name, ttl_fits, octets) (some, most, whole) = (
  answer_packet id 0x8580 name nb ttl entries,
  answering_is id 0x8580 name nb ttl entries rest id_fits (omega arith) is_name (omega arith) ttl_fits (omega arith),
  (refl, record { response = omega arith; opcode_is = refl; unicast = refl }, refl, (λ e. absurd cc, λ e. absurd (omega (arith, e))), answers_it id 0x8580 name nb ttl entries, (some, whole)),
)
text_is_read (found id name ttl entries true) rest (id_fits, is_name, ttl_fits, octets) (some, most, whole) = (
  answer_packet id 0x8780 name nb ttl entries,
  answering_is id 0x8780 name nb ttl entries rest id_fits (omega arith) is_name (omega arith) ttl_fits (omega arith),
  (refl, record { response = omega arith; opcode_is = refl; unicast = refl }, refl, (λ e. refl, λ e. refl), answers_it id 0x8780 name nb ttl entries, (some, whole)),
)
text_is_read (not_found id rcode None) rest id_fits (low, most) = (
  bare_packet id (0x8580 + rcode),
  bare_is id (0x8580 + rcode) rest id_fits (omega arith),
  (refl, record { response = omega arith; opcode_is = omega arith; unicast = omega arith }, omega arith, λ none. omega arith, record { no_question = refl; no_answer = refl; no_additional = refl }),
)
text_is_read (not_found id rcode (Some name)) rest (id_fits, is_name) (low, most) = (
  answer_packet id (0x8580 + rcode) name null 0 [],
  answering_is id (0x8580 + rcode) name null 0 [] rest id_fits (omega arith) is_name (omega arith) (omega arith) (omega arith),
  (refl, record { response = omega arith; opcode_is = omega arith; unicast = omega arith }, omega arith, λ none. omega arith, (_, record { no_question = refl; answer_is = refl; no_additional = refl }, refl)),
)
text_is_read (status id name entries) rest (id_fits, is_name, octets) (most, whole) = (
  answer_packet id 0x8400 name nbstat 0 (names_of entries),
  answering_is id 0x8400 name nbstat 0 (names_of entries) rest id_fits (omega arith) is_name (omega arith) (omega arith) (names_short entries most),
  (
    refl,
    record { response = omega arith; opcode_is = refl; unicast = refl },
    refl,
    0,
    names_of entries,
    answers_it id 0x8400 name nbstat 0 (names_of entries),
    record { counted = omega arith; whole = names_within entries whole; names_are = names_are entries whole },
  ),
)
text_is_read (wait id name ttl) rest (id_fits, is_name, ttl_fits) fits = (
  answer_packet id 0xBC00 name nb ttl (0x29 ∷ 0x00 ∷ []),
  answering_is id 0xBC00 name nb ttl (0x29 ∷ 0x00 ∷ []) rest id_fits (omega arith) is_name (omega arith) ttl_fits (omega arith),
  (refl, record { response = omega arith; opcode_is = refl; unicast = refl }, _, record { no_question = refl; answer_is = refl; no_additional = refl }, refl, refl),
)
