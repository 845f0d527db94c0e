-- The counts that stand before a place.
use Rattle.std.proofs.Common.{◌≡◌, ℕ, ◌≤◌, List, length, arith, Option, subst}
use Rattle.nbt_packet.proofs.Common.{Fault, word_at, CountFault, cut, great, IsHeaderOf, Header, Count, questions, answers, authorities, additionals, CountsFit, SectionAt, PacketFault, header_cut, count_great}

-- counts that fit one by one
pub counts_fit : (octets : List ℕ) (end : ℕ) → (6 ≤ end → word_at octets 4 ≤ 1) → (8 ≤ end → word_at octets 6 ≤ 1) → (10 ≤ end → word_at octets 8 ≤ 0) → (12 ≤ end → word_at octets 10 ≤ 1) → CountsFit octets end
counts_fit octets end q a n r _ _ questions within = q within
counts_fit octets end q a n r _ _ answers within = a within
counts_fit octets end q a n r _ _ authorities within = n within
counts_fit octets end q a n r _ _ additionals within = r within

-- a count's fault is the packet's, where the counts before it fit
pub count_fault : (octets : List ℕ) (place most : ℕ) (fault : Fault) → Count place most → CountsFit octets place → CountFault octets place most fault → PacketFault octets fault
count_fault octets place most _ count fit (great within more) = count_great place most count within more fit
count_fault octets _ _ _ questions fit (cut short) = header_cut (omega arith) (counts_fit octets (length octets) (λ h. absurd (omega arith)) (λ h. absurd (omega arith)) (λ h. absurd (omega arith)) (λ h. absurd (omega arith)))
count_fault octets _ _ _ answers fit (cut short) = header_cut (omega arith) (counts_fit octets (length octets) (λ h. fit 4 1 questions (omega arith)) (λ h. absurd (omega arith)) (λ h. absurd (omega arith)) (λ h. absurd (omega arith)))
count_fault octets _ _ _ authorities fit (cut short) = header_cut (omega arith) (counts_fit octets (length octets) (λ h. fit 4 1 questions (omega arith)) (λ h. fit 6 1 answers (omega arith)) (λ h. absurd (omega arith)) (λ h. absurd (omega arith)))
count_fault octets _ _ _ additionals fit (cut short) =
    header_cut (omega arith) (counts_fit octets (length octets) (λ h. fit 4 1 questions (omega arith)) (λ h. fit 6 1 answers (omega arith)) (λ h. fit 8 0 authorities (omega arith)) (λ h. absurd (omega arith)))

-- the counts that a header has
pub questions_most : (octets : List ℕ) (header : Header) → IsHeaderOf octets header → header.questions ≤ 1
questions_most octets header is = rw is.questions (is.whole.1 4 1 questions (omega arith))

pub answers_most : (octets : List ℕ) (header : Header) → IsHeaderOf octets header → header.answers ≤ 1
answers_most octets header is = rw is.answers (is.whole.1 6 1 answers (omega arith))

pub additionals_most : (octets : List ℕ) (header : Header) → IsHeaderOf octets header → header.additionals ≤ 1
additionals_most octets header is = rw is.additionals (is.whole.1 10 1 additionals (omega arith))

-- a section by an equal count
pub section_by : {X : Type 0} (At : ℕ → X → ℕ → Type 0) (count word place : ℕ) (section : Option X) (next : ℕ) → count ≡ word → SectionAt At count place section next → SectionAt At word place section next
section_by At count word place section next e at = subst (λ (k : ℕ). SectionAt At k place section next) e at
