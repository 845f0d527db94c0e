-- The sections of a packet, and what they aren't.
use Rattle.std.proofs.Common.{◌≡◌, ◌≢◌, ℕ, Option, Some, None, sym, ap, ◌∙◌, subst}
use Rattle.nbt_packet.proofs.Common.{same_Some, NameValue, Packet, Question, Record, Reason, Answers, Claims, internet, internet_record, PacketValue, RecordValue, packet_of, record_of, record_if, Shape, Asked, Answered, Added, IsReason, not_right, IsWrong}

-- an answer alone, and a question with an additional record, as the code finds them
pub answers : (packet : Packet) (answer : Record) → packet.question ≡ None → packet.answer ≡ Some answer → packet.additional ≡ None → Answers (packet_of packet) (record_of answer)
answers packet answer none is other = record { no_question = none; answer_is = ap record_if is; no_additional = ap record_if other }

pub claims : (packet : Packet) (question : Question) (additional : Record) → packet.question ≡ Some question → packet.answer ≡ None → packet.additional ≡ Some additional → Claims (packet_of packet) question (record_of additional)
claims packet question additional is none also = record { question_is = is; no_answer = ap record_if none; additional_is = ap record_if also }

-- an answer of this name, type and class IN
pub the_answer : (p : PacketValue) (r : RecordValue) (name : NameValue) (t : ℕ) → Answers p r → name ≡ r.name → r.rtype ≡ t → r.class ≡ internet → Answers p (internet_record name t r.ttl r.rdata)
the_answer p r name t is same e f =
    let whole : r ≡ internet_record name t r.ttl r.rdata = λ i. record { name = (sym same) i; rtype = e i; class = f i; ttl = r.ttl; rdata = r.rdata } in
    record { no_question = is.no_question; answer_is = is.answer_is ∙ ap {B = Option RecordValue} Some whole; no_additional = is.no_additional }

-- one section holds one record
pub one_of : {X : Type 0} {x y : X} {o : Option X} → o ≡ Some x → o ≡ Some y → x ≡ y
one_of a b = same_Some _ _ (sym a ∙ b)

-- what the question, the answer and the additional record aren't
pub unasked : {p : PacketValue} {q : Question} {r : RecordValue} → Claims p q r → (Q : Question → Type 0) → ¬ Q q → ¬ Asked p Q
unasked is Q none h = none (subst Q (one_of h.1 is.question_is) h.2)

pub unanswered : {p : PacketValue} {r : RecordValue} → Answers p r → (R : RecordValue → Type 0) → ¬ R r → ¬ Answered p R
unanswered is R none h = none (subst R (one_of h.1 is.answer_is) h.2)

pub unadded : {p : PacketValue} {q : Question} {r : RecordValue} → Claims p q r → (R : RecordValue → Type 0) → ¬ R r → ¬ Added p R
unadded is R none h = none (subst R (one_of h.1 is.additional_is) h.2)

pub unlike : {p : PacketValue} {q : Question} {r : RecordValue} → Claims p q r → q.name ≢ r.name → ¬ Asked p (λ x. Added p (λ y. x.name ≡ y.name))
unlike is other h = other (sym (ap (λ (x : Question). x.name) (one_of h.1 is.question_is)) ∙ h.2.2 ∙ ap (λ (y : RecordValue). y.name) (one_of h.2.1 is.additional_is))

pub is_reason : (shape : Shape) (p : PacketValue) (reason : Reason) → IsWrong shape p reason → IsReason p reason
is_reason shape p reason wrong = not_right shape reason wrong.0 wrong.1 wrong.2
