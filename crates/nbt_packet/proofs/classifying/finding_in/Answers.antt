use Rattle.std.proofs.Common.{◌≡◌, ◌+◌, ◌*◌, ◌<◌, ◌≤◌, inl, inr, refl, length}
use Rattle.nbt_packet.proofs.Common.{◌⊎◌, slice_index, iff_false, nb, nbstat, internet, AreEntries, RecordValue, record_of}
use Rattle.nbt_packet.proofs.Reasons.{answers, the_answer, unanswered}
use Rattle.nbt_packet.proofs.classifying.finding_in.Goals as goal
use Rattle.nbt_packet.proofs.classifying.finding_in.Goals.{else-answer-ne-NB-via-then-answer-ne-NB+else-answer-ne-NBSTAT, else-answer-ne-NB-via-else-answer-ne-NB, else-answer-eq-NB-via-then-answer-eq-NB+else-are_entries, else-answer-eq-NB-via-else-answer-eq-NB, else-answer-eq-NBSTAT-via-then-answer-eq-NBSTAT+else-holds_names, else-answer-eq-NBSTAT-via-else-answer-eq-NBSTAT}

pub returns-then-answer-ne-NBSTAT-clause-reason : goal.returns-then-answer-ne-NBSTAT-clause-reason
returns-then-answer-ne-NBSTAT-clause-reason c =
    let a = c.in-None-Some-None in
    let is = answers c.args.packet.now a.answer a.is-0 a.is-1 a.is-2 in
    (c.requires, (c.is_unicast.ensures.0 c.if-not-is_unicast.false, tt, (_, is)), unanswered is (λ (x : RecordValue). (x.rtype ≡ nb) ⊎ (x.rtype ≡ nbstat)) (λ s. elim s [ inl e ↦ c.if-answer-ne-NB.true e | inr e ↦ c.if-answer-ne-NBSTAT.true e ]))

pub returns-then-answer-ne-IN-clause-reason : goal.returns-then-answer-ne-IN-clause-reason
returns-then-answer-ne-IN-clause-reason c =
    let a = c.in-None-Some-None in
    let is = answers c.args.packet.now a.answer a.is-0 a.is-1 a.is-2 in
    let types : (a.answer.rtype ≡ nb) ⊎ (a.answer.rtype ≡ nbstat) = elim c.else-answer-ne-NB.branch [
      | else-answer-ne-NB-via-then-answer-ne-NB+else-answer-ne-NBSTAT w ↦ inr w.if-answer-ne-NBSTAT.false
      | else-answer-ne-NB-via-else-answer-ne-NB w ↦ inl w.if-answer-ne-NB.false
    ] in
    (c.requires, (c.is_unicast.ensures.0 c.if-not-is_unicast.false, tt, (_, is), (_, is.answer_is, types)), unanswered is (λ (x : RecordValue). x.class ≡ internet) c.if-answer-ne-IN.true)

pub returns-then-holds_names-clause-message : goal.returns-then-holds_names-clause-message
returns-then-holds_names-clause-message c =
    let a = c.in-None-Some-None in
    let is = answers c.args.packet.now a.answer a.is-0 a.is-1 a.is-2 in
    let r = record_of a.answer in
    (refl, record { response = c.requires.0; opcode_is = c.requires.1; unicast = c.is_unicast.ensures.0 c.if-not-is_unicast.false }, c.requires.2, r.ttl, r.rdata, the_answer _ r c.copy-name.result nbstat is c.copy-name.ensures c.if-answer-eq-NBSTAT.true c.if-answer-ne-IN.false, c.names_in-names.ensures)

pub returns-clause-reason : goal.returns-clause-reason
returns-clause-reason c =
    let a = c.in-None-Some-None in
    let is = answers c.args.packet.now a.answer a.is-0 a.is-1 a.is-2 in
    let types : (a.answer.rtype ≡ nb) ⊎ (a.answer.rtype ≡ nbstat) = elim c.else-answer-ne-NB.branch [
      | else-answer-ne-NB-via-then-answer-ne-NB+else-answer-ne-NBSTAT w ↦ inr w.if-answer-ne-NBSTAT.false
      | else-answer-ne-NB-via-else-answer-ne-NB w ↦ inl w.if-answer-ne-NB.false
    ] in
    let holds : RecordValue → Type 0 = λ x. ((x.rtype ≡ nb) × AreEntries x.rdata) ⊎ ((x.rtype ≡ nbstat) × (0 < length x.rdata) × (1 + 18 * slice_index x.rdata 0 ≤ length x.rdata)) in (
      c.requires,
      (c.is_unicast.ensures.0 c.if-not-is_unicast.false, tt, (_, is), (_, is.answer_is, types), (_, is.answer_is, c.if-answer-ne-IN.false)),
      unanswered is holds (λ s. elim s [
        | inl e ↦ elim c.else-answer-eq-NB.branch [
          | else-answer-eq-NB-via-then-answer-eq-NB+else-are_entries w ↦ iff_false w.are_entries.ensures w.if-are_entries.false e.1
          | else-answer-eq-NB-via-else-answer-eq-NB w ↦ w.if-answer-eq-NB.false e.0
        ]
        | inr e ↦ elim c.else-answer-eq-NBSTAT.branch [
          | else-answer-eq-NBSTAT-via-then-answer-eq-NBSTAT+else-holds_names w ↦ iff_false w.holds_names.ensures w.if-holds_names.false (e.1, e.2)
          | else-answer-eq-NBSTAT-via-else-answer-eq-NBSTAT w ↦ w.if-answer-eq-NBSTAT.false e.0
        ]
      ]),
    )
