-- A message that octets spell holds numbers in their ranges, and has a written form.
use Rattle.std.proofs.Common.{◌≡◌, ℕ, ◌+◌, ◌-◌, ◌*◌, ◌^◌, ◌<◌, List, length, drop, Option, Some, None, ap, subst, ◌∙◌, arith}
use Rattle.nbt_packet.proofs.Common.{slice_index, slice_range, length-take-le, length-drop, same_Some, Kind, NameValue, IsName, AreOctets, Registration, Question, word_at, RecordValue, PacketValue, QuestionAt, RecordAt, SectionAt, PacketIs, MessageValue, registration, overwrite, refresh, release, query, status_request, registered, released, found, not_found, status, wait, IsEntry, ClaimsEntry, AnswersEntry, GivesName, MessageIs, IsRegistration, HoldsNumbers, Fits, Spells}
use Rattle.nbt_name.proofs.Fits.{octets_range, word_fits, long_fits}

-- ---- what stands in a packet

record RecordHolds (r : RecordValue) : Type 0 where
  name : IsName r.name
  ttl : r.ttl < 2 ^ 32
  octets : AreOctets r.rdata
  most : length r.rdata < 2 ^ 16

record PacketHolds (p : PacketValue) : Type 0 where
  id : p.id < 2 ^ 16
  question : (q : Question) → p.question ≡ Some q → IsName q.name
  answer : (r : RecordValue) → p.answer ≡ Some r → RecordHolds r
  additional : (r : RecordValue) → p.additional ≡ Some r → RecordHolds r

record_holds : (octets : List ℕ) → AreOctets octets → (place : ℕ) (r : RecordValue) (next : ℕ) → RecordAt octets place r next → RecordHolds r
record_holds octets fits place r next at =
    let count : ℕ = word_at octets (at.named + 8) in
    let long : length (slice_range octets (at.named + 10) (at.named + 10 + count)) ≡ count =
    length-take-le ((at.named + 10 + count) - (at.named + 10)) (drop (at.named + 10) octets) (omega (arith, at.whole, length-drop (at.named + 10) octets)) ∙ omega arith in
    record {
      name = at.name.closes.is_name;
      ttl = rw at.ttl (long_fits octets (at.named + 4) fits);
      octets = rw at.rdata (octets_range octets (at.named + 10) (at.named + 10 + count) fits);
      most = rw (at.rdata, long) (word_fits octets (at.named + 8) fits);
    }

section_holds : {X : Type 0} (At : ℕ → X → ℕ → Type 0) (Holds : X → Type 0) → ((place : ℕ) (x : X) (next : ℕ) → At place x next → Holds x)
    → (count place : ℕ) (section : Option X) (next : ℕ) → SectionAt At count place section next → (x : X) → section ≡ Some x → Holds x
section_holds At Holds each count place None next at x e = absurd cc
section_holds At Holds each count place (Some y) next at x e = subst Holds (same_Some y x e) (each place y next at.1)

packet_holds : (octets : List ℕ) → AreOctets octets → (p : PacketValue) (n : ℕ) → PacketIs octets p n → PacketHolds p
packet_holds octets fits p n is = record {
  id = rw is.id (word_fits octets 0 fits);
  question = section_holds (QuestionAt octets) (λ q. IsName q.name) (λ place q next at. at.name.closes.is_name) _ _ p.question _ is.question;
  answer = section_holds (RecordAt octets) RecordHolds (record_holds octets fits) _ _ p.answer _ is.answer;
  additional = section_holds (RecordAt octets) RecordHolds (record_holds octets fits) _ _ p.additional _ is.additional;
}

-- ---- what a message takes from it

entry_holds : (rdata : List ℕ) (kind : Kind) (addr : ℕ) → AreOctets rdata → IsEntry rdata kind addr → addr < 2 ^ 32
entry_holds rdata kind addr fits entry = rw entry.addr_is (long_fits rdata 2 fits)

claim_holds : (p : PacketValue) (r : Registration) → PacketHolds p → ClaimsEntry p r → IsRegistration r
claim_holds p r holds is =
    let added = holds.additional _ is.claims.additional_is in
    (rw (← is.id) holds.id, added.name, entry_holds is.rdata r.kind r.addr added.octets is.entry, added.ttl)

answer_holds : (p : PacketValue) (r : Registration) → PacketHolds p → AnswersEntry p r → IsRegistration r
answer_holds p r holds is =
    let answer = holds.answer _ is.answers.answer_is in
    (rw (← is.id) holds.id, answer.name, entry_holds is.rdata r.kind r.addr answer.octets is.entry, answer.ttl)

given_name : (p : PacketValue) (id : ℕ) (name : Option NameValue) (rcode : ℕ) → PacketHolds p → p.id ≡ id → GivesName p name → HoldsNumbers (not_found id rcode name)
given_name p id None rcode holds same gives = rw (← same) holds.id
given_name p id (Some name) rcode holds same gives = (rw (← same) holds.id, rw (← gives.2) (holds.answer gives.0 gives.1.answer_is).name)

message_holds : (p : PacketValue) (m : MessageValue) → PacketHolds p → MessageIs p m → HoldsNumbers m × Fits m
message_holds p (registration r) holds is = (claim_holds p r holds is.2, tt)
message_holds p (overwrite r) holds is = (claim_holds p r holds is.2, tt)
message_holds p (refresh r) holds is = (claim_holds p r holds is.1, tt)
message_holds p (release id name kind addr) holds is = let r = claim_holds p _ holds is.2 in ((r.0, r.1, r.2), tt)
message_holds p (query id name) holds is = ((rw (← is.0) holds.id, holds.question _ is.2.question_is), tt)
message_holds p (status_request id name) holds is = ((rw (← is.0) holds.id, holds.question _ is.3.question_is), tt)
message_holds p (registered rcode r) holds is = (answer_holds p r holds is.3, omega (arith, is.2))
message_holds p (released id rcode name kind addr) holds is = let r = answer_holds p _ holds is.3 in ((r.0, r.1, r.2), omega (arith, is.1))
message_holds p (found id name ttl entries cut) holds is =
    let answer = holds.answer _ is.4.answer_is in
    ((rw (← is.0) holds.id, answer.name, answer.ttl, answer.octets), (is.5.0, omega (arith, answer.most, is.5.1), is.5.1))
message_holds p (not_found id rcode name) holds is = (given_name p id name rcode holds is.0 is.4, (omega (arith, is.3), omega (arith, is.2)))
message_holds p (status id name names) holds is =
    let answer = holds.answer _ is.5.answer_is in
    let count : ℕ = slice_index is.4 0 in
    let long : length names ≡ 18 * count =
    ap length is.6.names_are ∙ length-take-le ((1 + 18 * count) - 1) (drop 1 is.4) (omega (arith, is.6.whole, length-drop 1 is.4)) ∙ omega arith in (
      (rw (← is.0) holds.id, answer.name, rw is.6.names_are (octets_range is.4 1 (1 + 18 * count) answer.octets)),
      (omega (arith, long, answer.octets 0), omega (arith, long)),
    )
message_holds p (wait id name ttl) holds is =
    let answer = holds.answer is.2 is.3.answer_is in
    ((rw (← is.0) holds.id, rw (← is.4) answer.name, rw (← is.5) answer.ttl), tt)

pub spelled_fits : (octets : List ℕ) (m : MessageValue) → AreOctets octets → Spells octets m → HoldsNumbers m × Fits m
spelled_fits octets m fits s = message_holds s.packet m (packet_holds octets fits s.packet s.taken s.packet_is) s.message_is
