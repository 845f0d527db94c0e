-- Octets begin with one packet, or have one fault: section by section.
use Rattle.std.proofs.Common.{◌≡◌, ℕ, zero, suc, ◌+◌, ◌<◌, ◌≤◌, List, length, Option, Some, None, refl, sym, subst, ◌∙◌, arith, inl, inr}
use Rattle.nbt_packet.proofs.Common.{◌⊎◌, slice_range, cases_lt, NameFault, Compressed, word_at, long_at, NameValue, AreOctets, NameAt, FaultAt, Fault, Question, fault_of, short, too_many, CountFault, cut, great, RecordValue, PacketValue, QuestionAt, RecordAt, SectionAt, Count, questions, answers, authorities, additionals, CountsFit, IsHeader, PacketIs, QuestionFault, question_name, question_cut, RecordFault, record_name, record_cut, rdata_cut, PacketFault, header_cut, count_great, question_bad, answer_bad, additional_bad, MessageValue, MessageIs, Spells}
use Rattle.nbt_name.proofs.Readers.{Reads, reads_this, reads_up_to, reads_name, reads_same, reads_as, reads_then}
use Rattle.nbt_packet.proofs.Header.{counts_fit, count_fault}
use Rattle.nbt_packet.proofs.OneMessage.{one_line}

module _ (octets : List ℕ) where
  -- ---- the header

  -- a count that stands whole, and fits
  abbrev Counts : ℕ → ℕ → Type 0
  Counts place most = (place + 2 ≤ length octets) × (word_at octets place ≤ most)

  reads_count : (place most : ℕ) → Reads {X = Unit {0}} {F = Fault} (AreOctets octets) (λ u. Counts place most) (CountFault octets place most)
  reads_count place most =
      reads_same
      (reads_then (reads_up_to (place + 2) (length octets) (short octets)) (λ u within. reads_up_to (word_at octets place) most (too_many place)))
      (λ u is. (is.1, is.2)) (λ u is. (tt, is.0, is.1))
      (λ f bad. elim bad [ inl b ↦ subst (CountFault octets place most) (sym b.0) (cut b.1) | inr b ↦ subst (CountFault octets place most) (sym b.2.0) (great b.1 b.2.1) ]) from_fault
    where
      from_fault : (f : Fault) → CountFault octets place most f
          → ((f ≡ short octets) × (length octets < place + 2)) ⊎ ((u : Unit {0}) × (place + 2 ≤ length octets) × ((f ≡ too_many place) × (most < word_at octets place)))
      from_fault _ (cut less) = inl (refl, less)
      from_fault _ (great within more) = inr (tt, within, (refl, more))

  -- the first count that is cut or too great, after those that fit
  abbrev HeaderBad : Fault → Type 0
  HeaderBad f =
      CountFault octets 4 1 f ⊎ ((u : Unit {0}) × Counts 4 1 × (CountFault octets 6 1 f ⊎ ((v : Unit {0}) × Counts 6 1 × (CountFault octets 8 0 f ⊎ ((w : Unit {0}) × Counts 8 0 × CountFault octets 10 1 f)))))

  reads_header : Reads {X = Unit {0}} {F = Fault} (AreOctets octets) (λ u. IsHeader octets) HeaderBad
  reads_header =
      reads_same
      (reads_then (reads_count 4 1) (λ u q. reads_then (reads_count 6 1) (λ v a. reads_then (reads_count 8 0) (λ w n. reads_count 10 1))))
      (λ u is. (is.2.2.2.0, counts_fit octets 12 (λ h. is.1.1) (λ h. is.2.1.1) (λ h. is.2.2.1.1) (λ h. is.2.2.2.1)))
      (λ u h. (tt, (omega (arith, h.0), h.1 4 1 questions (omega arith)), (tt, (omega (arith, h.0), h.1 6 1 answers (omega arith)), (tt, (omega (arith, h.0), h.1 8 0 authorities (omega arith)), (omega (arith, h.0), h.1 10 1 additionals (omega arith))))))
      (λ f bad. bad) (λ f bad. bad)

  header_bad : (f : Fault) → HeaderBad f → PacketFault octets f
  header_bad f (inl bad) = count_fault octets 4 1 f questions (counts_fit octets 4 (λ h. absurd (omega arith)) (λ h. absurd (omega arith)) (λ h. absurd (omega arith)) (λ h. absurd (omega arith))) bad
  header_bad f (inr (u, q, inl bad)) = count_fault octets 6 1 f answers (counts_fit octets 6 (λ h. q.1) (λ h. absurd (omega arith)) (λ h. absurd (omega arith)) (λ h. absurd (omega arith))) bad
  header_bad f (inr (u, q, inr (v, a, inl bad))) = count_fault octets 8 0 f authorities (counts_fit octets 8 (λ h. q.1) (λ h. a.1) (λ h. absurd (omega arith)) (λ h. absurd (omega arith))) bad
  header_bad f (inr (u, q, inr (v, a, inr (w, n, bad)))) = count_fault octets 10 1 f additionals (counts_fit octets 10 (λ h. q.1) (λ h. a.1) (λ h. n.1) (λ h. absurd (omega arith))) bad

  header_is_cut : length octets < 12 → CountsFit octets (length octets) → HeaderBad (short octets)
  header_is_cut less fit =
      elim (cases_lt (length octets) 6) [
        | inl one ↦ inl (cut one)
        | inr q ↦ inr (
          tt,
          (q, fit 4 1 questions q),
          elim (cases_lt (length octets) 8) [
            | inl two ↦ inl (cut two)
            | inr a ↦ inr (
              tt,
              (a, fit 6 1 answers a),
              elim (cases_lt (length octets) 10) [
                | inl three ↦ inl (cut three)
                | inr n ↦ inr (tt, (n, fit 8 0 authorities n), cut less)
              ],
            )
          ],
        )
      ]

  count_is_great : (place most : ℕ) → Count place most → place + 2 ≤ length octets → most < word_at octets place → CountsFit octets place → HeaderBad (too_many place)
  count_is_great _ _ questions within more fit = inl (great within more)
  count_is_great _ _ answers within more fit = inr (tt, (omega arith, fit 4 1 questions (omega arith)), inl (great within more))
  count_is_great _ _ authorities within more fit = inr (tt, (omega arith, fit 4 1 questions (omega arith)), inr (tt, (omega arith, fit 6 1 answers (omega arith)), inl (great within more)))
  count_is_great _ _ additionals within more fit =
      inr (tt, (omega arith, fit 4 1 questions (omega arith)), inr (tt, (omega arith, fit 6 1 answers (omega arith)), inr (tt, (omega arith, fit 8 0 authorities (omega arith)), great within more)))

  -- ---- the sections

  reads_section : {X : Type 0} (At : ℕ → X → ℕ → Type 0) (Bad : ℕ → Fault → Type 0) → ((place : ℕ) → Reads {X = X × ℕ} {F = Fault} (AreOctets octets) (λ x. At place x.0 x.1) (Bad place))
      → (count place : ℕ) → count ≤ 1 → Reads {X = Option X × ℕ} {F = Fault} (AreOctets octets) (λ x. SectionAt At count place x.0 x.1) (λ f. (count ≡ 1) × Bad place f)
  reads_section {X} At Bad each zero place most =
      record {
        found = λ p. inl ((None, place), (refl, refl));
        one_value = λ x y a b. sym (none_there x.0 x.1 a) ∙ none_there y.0 y.1 b;
        one_fault = λ f g a b. absurd (omega (arith, a.0));
        not_both = λ x f a b. omega (arith, b.0);
      }
    where
      none_there : (s : Option X) (n : ℕ) → SectionAt At zero place s n → ◌≡◌ {A = Option X × ℕ} (None, place) (s, n)
      none_there None n at = let e : place ≡ n = sym at.1 in λ i. (None, e i)
      none_there (Some y) n at = absurd (omega (arith, at.0))
  reads_section {X} At Bad each (suc zero) place most =
      reads_as (λ (x : X × ℕ). (Some x.0, x.1)) (each place) (λ x at. (refl, at)) (λ x at. some_there x.0 x.1 at) (λ f bad. (refl, bad)) (λ f bad. bad.1)
    where
      some_there : (s : Option X) (n : ℕ) → SectionAt At 1 place s n → (y : X × ℕ) × At place y.0 y.1 × ◌≡◌ {A = Option X × ℕ} (Some y.0, y.1) (s, n)
      some_there None n at = absurd (omega (arith, at.0))
      some_there (Some y) n at = ((y, n), at.1, refl)
  reads_section At Bad each (suc (suc count)) place most = absurd (omega arith)

  -- a question, as what stands after its name says
  abbrev question_of : NameValue × ℕ → Question × ℕ
  question_of x = (record { name = x.0; rtype = word_at octets x.1; class = word_at octets (x.1 + 2) }, x.1 + 4)

  -- what may be wrong on the way, and likewise below
  abbrev QuestionBad : ℕ → Fault → Type 0
  QuestionBad place f =
      ((n : NameFault) × FaultAt octets place n × (fault_of n ≡ f))
      ⊎ ((x : NameValue × ℕ) × NameAt octets place x.0 x.1 × (((f ≡ short octets) × (length octets < x.1 + 4)) ⊎ ((u : Unit {0}) × (x.1 + 4 ≤ length octets) × ⊥)))

  reads_question : (place : ℕ) → Reads {X = Question × ℕ} {F = Fault} (AreOctets octets) (λ x. QuestionAt octets place x.0 x.1) (QuestionFault octets place)
  reads_question place =
      reads_same
      (reads_then (reads_name Compressed octets (λ fits. fits) fault_of place) (λ x at. reads_then (reads_up_to (x.1 + 4) (length octets) (short octets)) (λ u within. reads_this (question_of x))))
      (λ y is. subst (λ (z : Question × ℕ). QuestionAt octets place z.0 z.1) (sym is.2.2) (record { named = is.0.1; name = is.1; fits = is.2.1; rtype = refl; class = refl; next_is = refl }))
      (λ y q. ((y.0.name, q.named), q.name, (tt, q.fits, λ i. (record { name = y.0.name; rtype = q.rtype i; class = q.class i }, q.next_is i))))
      to_fault from_fault
    where
      to_fault : (f : Fault) → QuestionBad place f → QuestionFault octets place f
      to_fault f (inl (n, at, e)) = subst (QuestionFault octets place) e (question_name n at)
      to_fault f (inr (x, at, inl (e, less))) = subst (QuestionFault octets place) (sym e) (question_cut x.0 x.1 at less)
      to_fault f (inr (x, at, inr (u, within, never))) = absurd never

      from_fault : (f : Fault) → QuestionFault octets place f → QuestionBad place f
      from_fault _ (question_name n at) = inl (n, at, refl)
      from_fault _ (question_cut name named at less) = inr ((name, named), at, inl (refl, less))

  -- a record, likewise
  abbrev record_of : NameValue × ℕ → RecordValue × ℕ
  record_of x = (
    record { name = x.0; rtype = word_at octets x.1; class = word_at octets (x.1 + 2); ttl = long_at octets (x.1 + 4); rdata = slice_range octets (x.1 + 10) (x.1 + 10 + word_at octets (x.1 + 8)) },
    x.1 + 10 + word_at octets (x.1 + 8),
  )

  abbrev RecordBad : ℕ → Fault → Type 0
  RecordBad place f =
      ((n : NameFault) × FaultAt octets place n × (fault_of n ≡ f))
      ⊎ ((x : NameValue × ℕ) × NameAt octets place x.0 x.1 × (((f ≡ short octets) × (length octets < x.1 + 10)) ⊎ ((u : Unit {0}) × (x.1 + 10 ≤ length octets)
      × (((f ≡ short octets) × (length octets < x.1 + 10 + word_at octets (x.1 + 8))) ⊎ ((v : Unit {0}) × (x.1 + 10 + word_at octets (x.1 + 8) ≤ length octets) × ⊥)))))

  reads_record : (place : ℕ) → Reads {X = RecordValue × ℕ} {F = Fault} (AreOctets octets) (λ x. RecordAt octets place x.0 x.1) (RecordFault octets place)
  reads_record place =
      reads_same
      (reads_then (reads_name Compressed octets (λ fits. fits) fault_of place) (λ x at. reads_then (reads_up_to (x.1 + 10) (length octets) (short octets)) (λ u within.
      reads_then (reads_up_to (x.1 + 10 + word_at octets (x.1 + 8)) (length octets) (short octets)) (λ v whole. reads_this (record_of x)))))
      (λ y is. subst (λ (z : RecordValue × ℕ). RecordAt octets place z.0 z.1) (sym is.2.2.2)
      (record { named = is.0.1; name = is.1; fits = is.2.1; rtype = refl; class = refl; ttl = refl; whole = is.2.2.1; rdata = refl; next_is = refl }))
      (λ y r. ((y.0.name, r.named), r.name, (tt, r.fits, (tt, r.whole, λ i. (record { name = y.0.name; rtype = r.rtype i; class = r.class i; ttl = r.ttl i; rdata = r.rdata i }, r.next_is i)))))
      to_fault from_fault
    where
      to_fault : (f : Fault) → RecordBad place f → RecordFault octets place f
      to_fault f (inl (n, at, e)) = subst (RecordFault octets place) e (record_name n at)
      to_fault f (inr (x, at, inl (e, less))) = subst (RecordFault octets place) (sym e) (record_cut x.0 x.1 at less)
      to_fault f (inr (x, at, inr (u, within, inl (e, less)))) = subst (RecordFault octets place) (sym e) (rdata_cut x.0 x.1 at within less)
      to_fault f (inr (x, at, inr (u, within, inr (v, whole, never)))) = absurd never

      from_fault : (f : Fault) → RecordFault octets place f → RecordBad place f
      from_fault _ (record_name n at) = inl (n, at, refl)
      from_fault _ (record_cut name named at less) = inr ((name, named), at, inl (refl, less))
      from_fault _ (rdata_cut name named at within less) = inr ((name, named), at, inr (tt, within, inl (refl, less)))

  -- ---- the packet

  -- what the sections are, with the header's words
  abbrev packet_of : Option Question × ℕ → Option RecordValue × ℕ → Option RecordValue × ℕ → PacketValue × ℕ
  packet_of q a r = (record { id = word_at octets 0; flags = word_at octets 2; question = q.0; answer = a.0; additional = r.0 }, r.1)

  abbrev Asked : Option Question × ℕ → Type 0
  Asked q = SectionAt (QuestionAt octets) (word_at octets 4) 12 q.0 q.1

  abbrev Answered : Option Question × ℕ → Option RecordValue × ℕ → Type 0
  Answered q a = SectionAt (RecordAt octets) (word_at octets 6) q.1 a.0 a.1

  abbrev Added : Option RecordValue × ℕ → Option RecordValue × ℕ → Type 0
  Added a r = SectionAt (RecordAt octets) (word_at octets 10) a.1 r.0 r.1

  abbrev PacketBad : Fault → Type 0
  PacketBad f =
      HeaderBad f ⊎ ((u : Unit {0}) × IsHeader octets × (((word_at octets 4 ≡ 1) × QuestionFault octets 12 f) ⊎ ((q : Option Question × ℕ) × Asked q
      × (((word_at octets 6 ≡ 1) × RecordFault octets q.1 f) ⊎ ((a : Option RecordValue × ℕ) × Answered q a
      × (((word_at octets 10 ≡ 1) × RecordFault octets a.1 f) ⊎ ((r : Option RecordValue × ℕ) × Added a r × ⊥)))))))

  pub reads_packet : Reads {X = PacketValue × ℕ} {F = Fault} (AreOctets octets) (λ x. PacketIs octets x.0 x.1) (PacketFault octets)
  reads_packet =
      reads_same
      (reads_then reads_header (λ u h. reads_then (reads_section (QuestionAt octets) (QuestionFault octets) reads_question (word_at octets 4) 12 (h.1 4 1 questions (omega arith))) (λ q asked.
      reads_then (reads_section (RecordAt octets) (RecordFault octets) reads_record (word_at octets 6) q.1 (h.1 6 1 answers (omega arith))) (λ a answered.
      reads_then (reads_section (RecordAt octets) (RecordFault octets) reads_record (word_at octets 10) a.1 (h.1 10 1 additionals (omega arith))) (λ r added. reads_this (packet_of q a r))))))
      to_value
      (λ x p. (
        tt,
        p.header,
        (
          (x.0.question, p.asked),
          p.question,
          (
            (x.0.answer, p.answered),
            p.answer,
            (
              (x.0.additional, x.1),
              p.additional,
              λ i. (record { id = p.id i; flags = p.flags i; question = x.0.question; answer = x.0.answer; additional = x.0.additional }, x.1),
            ),
          ),
        ),
      ))
      to_fault from_fault
    where
      to_value : (x : PacketValue × ℕ) → ((u : Unit {0}) × IsHeader octets × ((q : Option Question × ℕ) × Asked q × ((a : Option RecordValue × ℕ) × Answered q a × ((r : Option RecordValue × ℕ) × Added a r × (x ≡ packet_of q a r))))) → PacketIs octets x.0 x.1
      to_value x (u, h, (q, asked, (a, answered, (r, added, e)))) =
          subst (λ (z : PacketValue × ℕ). PacketIs octets z.0 z.1) (sym e) (record { asked = q.1; answered = a.1; header = h; id = refl; flags = refl; question = asked; answer = answered; additional = added })

      to_fault : (f : Fault) → PacketBad f → PacketFault octets f
      to_fault f (inl bad) = header_bad f bad
      to_fault f (inr (u, h, inl (one, bad))) = question_bad f h one bad
      to_fault f (inr (u, h, inr (q, asked, inl (one, bad)))) = answer_bad f q.0 q.1 h asked one bad
      to_fault f (inr (u, h, inr (q, asked, inr (a, answered, inl (one, bad))))) = additional_bad f q.0 a.0 q.1 a.1 h asked answered one bad
      to_fault f (inr (u, h, inr (q, asked, inr (a, answered, inr (r, added, never))))) = absurd never

      from_fault : (f : Fault) → PacketFault octets f → PacketBad f
      from_fault _ (header_cut less fit) = inl (header_is_cut less fit)
      from_fault _ (count_great place most count within more fit) = inl (count_is_great place most count within more fit)
      from_fault f (question_bad _ h one bad) = inr (tt, h, inl (one, bad))
      from_fault f (answer_bad _ q asked h at one bad) = inr (tt, h, inr ((q, asked), at, inl (one, bad)))
      from_fault f (additional_bad _ q a asked answered h at stands one bad) = inr (tt, h, inr ((q, asked), at, inr ((a, answered), stands, inl (one, bad))))

-- ---- so no octets spell two messages

pub one_spelled : (octets : List ℕ) (m n : MessageValue) → Spells octets m → Spells octets n → m ≡ n
one_spelled octets m n a b =
    let same : ◌≡◌ {A = PacketValue × ℕ} (a.packet, a.taken) (b.packet, b.taken) = (reads_packet octets).one_value (a.packet, a.taken) (b.packet, b.taken) a.packet_is b.packet_is in
    one_line b.packet m n (subst (λ (x : PacketValue × ℕ). MessageIs x.0 m) same a.message_is) b.message_is
