use Rattle.std.proofs.Common.{◌≡◌, length, rules}
use Rattle.nbt_packet.proofs.Common.{nb, internet, RecordValue, Question}
use Rattle.nbt_packet.proofs.Reasons.{claims, unasked, unadded, unlike}
use Rattle.nbt_packet.proofs.classifying.claim_in.Goals as goal
use Rattle.nbt_packet.proofs.classifying.claim_in.Goals.{then-question-ne-NB-via-then-question-ne-NB, then-question-ne-NB-via-else-question-ne-NB+then-additional-ne-NB, then-question-ne-IN-via-then-question-ne-IN, then-question-ne-IN-via-else-question-ne-IN+then-additional-ne-IN}

pub returns-then-question-ne-NB-clause-reason : goal.returns-then-question-ne-NB-clause-reason
returns-then-question-ne-NB-clause-reason c =
    let a = c.in-Some-None-Some in
    let is = claims c.args.packet.now a.question a.additional a.is-0 a.is-1 a.is-2 in (
      c.requires,
      (c.is_unicast.ensures.0 c.if-not-is_unicast.false, tt, (_, _, is)),
      λ right. elim c.then-question-ne-NB.branch [
        | then-question-ne-NB-via-then-question-ne-NB w ↦ unasked is (λ (x : Question). x.rtype ≡ nb) w.if-question-ne-NB.true right.0
        | then-question-ne-NB-via-else-question-ne-NB+then-additional-ne-NB w ↦ unadded is (λ (x : RecordValue). x.rtype ≡ nb) w.if-additional-ne-NB.true right.1
      ],
    )

pub returns-then-question-ne-IN-clause-reason : goal.returns-then-question-ne-IN-clause-reason
returns-then-question-ne-IN-clause-reason c =
    let a = c.in-Some-None-Some in
    let is = claims c.args.packet.now a.question a.additional a.is-0 a.is-1 a.is-2 in (
      c.requires,
      (c.is_unicast.ensures.0 c.if-not-is_unicast.false, tt, (_, _, is), ((_, is.question_is, c.if-question-ne-NB.false), (_, is.additional_is, c.if-additional-ne-NB.false))),
      λ right. elim c.then-question-ne-IN.branch [
        | then-question-ne-IN-via-then-question-ne-IN w ↦ unasked is (λ (x : Question). x.class ≡ internet) w.if-question-ne-IN.true right.0
        | then-question-ne-IN-via-else-question-ne-IN+then-additional-ne-IN w ↦ unadded is (λ (x : RecordValue). x.class ≡ internet) w.if-additional-ne-IN.true right.1
      ],
    )

pub returns-then-additional-ne-ADDR_ENTRY-clause-reason : goal.returns-then-additional-ne-ADDR_ENTRY-clause-reason
returns-then-additional-ne-ADDR_ENTRY-clause-reason c =
    let a = c.in-Some-None-Some in
    let is = claims c.args.packet.now a.question a.additional a.is-0 a.is-1 a.is-2 in
    (c.requires, (c.is_unicast.ensures.0 c.if-not-is_unicast.false, tt, (_, _, is), ((_, is.question_is, c.if-question-ne-NB.false), (_, is.additional_is, c.if-additional-ne-NB.false)), ((_, is.question_is, c.if-question-ne-IN.false), (_, is.additional_is, c.if-additional-ne-IN.false))), unadded is (λ (x : RecordValue). length x.rdata ≡ 6) c.if-additional-ne-ADDR_ENTRY.true)

pub returns-then-not-have_one_name-clause-reason : goal.returns-then-not-have_one_name-clause-reason
returns-then-not-have_one_name-clause-reason c =
    let a = c.in-Some-None-Some in
    let is = claims c.args.packet.now a.question a.additional a.is-0 a.is-1 a.is-2 in
    (c.requires, (c.is_unicast.ensures.0 c.if-not-is_unicast.false, tt, (_, _, is), ((_, is.question_is, c.if-question-ne-NB.false), (_, is.additional_is, c.if-additional-ne-NB.false)), ((_, is.question_is, c.if-question-ne-IN.false), (_, is.additional_is, c.if-additional-ne-IN.false)), (_, is.additional_is, c.if-additional-ne-ADDR_ENTRY.false)), unlike is (λ e. let same = c.have_one_name.ensures.1 e in absurd (search (rules, same))))
