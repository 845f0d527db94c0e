-- No packet meets two lines of the table.
use Rattle.std.proofs.Common.{◌≡◌, ℕ, ◌+◌, ◌*◌, List, Option, Some, None, refl, sym, ap, ◌∙◌, arith}
use Rattle.nbt_packet.proofs.Common.{◌↔◌, Bool, true, false, IsTrue, slice_index, slice_range, NameValue, Registration, Question, PacketValue, RecordValue, MessageValue, registration, overwrite, refresh, release, query, status_request, registered, released, found, not_found, status, wait, nb, internet_record, IsEntry, ClaimsEntry, AnswersEntry, GivesName, MessageIs}
use Rattle.nbt_packet.proofs.Reasons.{one_of}

-- one record with one entry makes one registration
one_entry : (r s : Registration) (x y : List ℕ) → internet_record r.name nb r.ttl x ≡ internet_record s.name nb s.ttl y → r.id ≡ s.id → IsEntry x r.kind r.addr → IsEntry y s.kind s.addr → r ≡ s
one_entry r s x y same id a b =
    let name : r.name ≡ s.name = ap (λ (v : RecordValue). v.name) same in
    let ttl : r.ttl ≡ s.ttl = ap (λ (v : RecordValue). v.ttl) same in
    let rdata : x ≡ y = ap (λ (v : RecordValue). v.rdata) same in
    let kind : r.kind ≡ s.kind = cc in
    let addr : r.addr ≡ s.addr = cc in
    λ i. record { id = id i; name = name i; kind = kind i; addr = addr i; ttl = ttl i }

one_claim : (p : PacketValue) (r s : Registration) → ClaimsEntry p r → ClaimsEntry p s → r ≡ s
one_claim p r s a b = one_entry r s a.rdata b.rdata (one_of a.claims.additional_is b.claims.additional_is) (sym a.id ∙ b.id) a.entry b.entry

one_answer : (p : PacketValue) (r s : Registration) → AnswersEntry p r → AnswersEntry p s → r ≡ s
one_answer p r s a b = one_entry r s a.rdata b.rdata (one_of a.answers.answer_is b.answers.answer_is) (sym a.id ∙ b.id) a.entry b.entry

one_name : (p : PacketValue) (a b : Option NameValue) → GivesName p a → GivesName p b → a ≡ b
one_name p None None x y = refl
one_name p None (Some b) x y = absurd (let none = x.no_answer in let some = y.1.answer_is in cc)
one_name p (Some a) None x y = absurd (let none = y.no_answer in let some = x.1.answer_is in cc)
one_name p (Some a) (Some b) x y = ap {B = Option NameValue} Some (sym x.2 ∙ ap (λ (v : RecordValue). v.name) (one_of x.1.answer_is y.1.answer_is) ∙ y.2)

-- one bit is set or clear
one_bit : {A : Type 0} (x y : Bool) → (IsTrue x ↔ A) → (IsTrue y ↔ A) → x ≡ y
one_bit true true a b = refl
one_bit false false a b = refl
one_bit true false a b = absurd (let e = b.1 (a.0 refl) in cc)
one_bit false true a b = absurd (let e = a.1 (b.0 refl) in cc)

pub one_line : (p : PacketValue) (m n : MessageValue) → MessageIs p m → MessageIs p n → m ≡ n
one_line p (registration r) (registration s) a b = ap registration (one_claim p r s a.2 b.2)
one_line p (overwrite r) (overwrite s) a b = ap overwrite (one_claim p r s a.2 b.2)
one_line p (refresh r) (refresh s) a b = ap refresh (one_claim p r s a.1 b.1)
one_line p (release id name kind addr) (release id' name' kind' addr') a b = ap (λ (r : Registration). release r.id r.name r.kind r.addr) (one_claim p _ _ a.2 b.2)
one_line p (query id name) (query id' name') a b =
    let ids : id ≡ id' = sym a.0 ∙ b.0 in
    let asked = one_of a.2.question_is b.2.question_is in
    λ i. query (ids i) (asked i).name
one_line p (status_request id name) (status_request id' name') a b =
    let ids : id ≡ id' = sym a.0 ∙ b.0 in
    let asked = one_of a.3.question_is b.3.question_is in
    λ i. status_request (ids i) (asked i).name
one_line p (registered rcode r) (registered rcode' s) a b =
    let rcodes : rcode ≡ rcode' = a.2 ∙ sym b.2 in
    let same = one_answer p r s a.3 b.3 in
    λ i. registered (rcodes i) (same i)
one_line p (released id rcode name kind addr) (released id' rcode' name' kind' addr') a b =
    let rcodes : rcode ≡ rcode' = a.1 ∙ sym b.1 in
    let same = one_answer p _ _ a.3 b.3 in
    λ i. released (same i).id (rcodes i) (same i).name (same i).kind (same i).addr
one_line p (found id name ttl entries cut) (found id' name' ttl' entries' cut') a b =
    let ids : id ≡ id' = sym a.0 ∙ b.0 in
    let cuts : cut ≡ cut' = one_bit cut cut' a.3 b.3 in
    let told = one_of a.4.answer_is b.4.answer_is in
    λ i. found (ids i) (told i).name (told i).ttl (told i).rdata (cuts i)
one_line p (not_found id rcode name) (not_found id' rcode' name') a b =
    let ids : id ≡ id' = sym a.0 ∙ b.0 in
    let rcodes : rcode ≡ rcode' = a.2 ∙ sym b.2 in
    let names = one_name p name name' a.4 b.4 in
    λ i. not_found (ids i) (rcodes i) (names i)
one_line p (status id name names) (status id' name' names') a b =
    let ids : id ≡ id' = sym a.0 ∙ b.0 in
    let told = one_of a.5.answer_is b.5.answer_is in
    let rows : names ≡ names' = a.6.names_are ∙ ap (λ (v : RecordValue). slice_range v.rdata 1 (1 + 18 * slice_index v.rdata 0)) told ∙ sym b.6.names_are in
    λ i. status (ids i) (told i).name (rows i)
one_line p (wait id name ttl) (wait id' name' ttl') a b =
    let ids : id ≡ id' = sym a.0 ∙ b.0 in
    let told = one_of a.3.answer_is b.3.answer_is in
    let names : name ≡ name' = sym a.4 ∙ ap (λ (v : RecordValue). v.name) told ∙ b.4 in
    let ttls : ttl ≡ ttl' = sym a.5 ∙ ap (λ (v : RecordValue). v.ttl) told ∙ b.5 in
    λ i. wait (ids i) (names i) (ttls i)
one_line p (query id name) (status_request id' name') a b = absurd (omega (arith, ap (λ (q : Question). q.rtype) (one_of a.2.question_is b.3.question_is)))
one_line p (status_request id name) (query id' name') a b = absurd (omega (arith, ap (λ (q : Question). q.rtype) (one_of a.3.question_is b.2.question_is)))
one_line p (found id name ttl entries cut) (status id' name' names) a b = absurd (omega (arith, ap (λ (v : RecordValue). v.rtype) (one_of a.4.answer_is b.5.answer_is)))
one_line p (status id name names) (found id' name' ttl entries cut) a b = absurd (omega (arith, ap (λ (v : RecordValue). v.rtype) (one_of a.5.answer_is b.4.answer_is)))
one_line p m n a b = absurd (first_of (cc, omega arith))
