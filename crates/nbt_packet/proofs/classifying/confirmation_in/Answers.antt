use Rattle.std.proofs.Common.{◌≡◌, length, refl, sym, ◌∙◌}
use Rattle.nbt_packet.proofs.Common.{iff_false, nb, internet, RecordValue, record_of}
use Rattle.nbt_packet.proofs.Reasons.{answers, the_answer, unanswered}
use Rattle.nbt_packet.proofs.classifying.confirmation_in.Goals as goal

pub returns-then-answer-ne-NB-clause-reason : goal.returns-then-answer-ne-NB-clause-reason
returns-then-answer-ne-NB-clause-reason c =
    let a = c.in-None-Some-None in
    let is = answers c.args.packet.now a.answer a.is-0 a.is-1 a.is-2 in
    (c.requires, (c.is_unicast.ensures.0 c.if-not-is_unicast.false, iff_false c.is_challenge.ensures c.if-is_challenge.false, (_, is)), unanswered is (λ (x : RecordValue). x.rtype ≡ nb) c.if-answer-ne-NB.true)

pub returns-then-answer-ne-IN-clause-reason : goal.returns-then-answer-ne-IN-clause-reason
returns-then-answer-ne-IN-clause-reason c =
    let a = c.in-None-Some-None in
    let is = answers c.args.packet.now a.answer a.is-0 a.is-1 a.is-2 in
    (c.requires, (c.is_unicast.ensures.0 c.if-not-is_unicast.false, iff_false c.is_challenge.ensures c.if-is_challenge.false, (_, is), (_, is.answer_is, c.if-answer-ne-NB.false)), unanswered is (λ (x : RecordValue). x.class ≡ internet) c.if-answer-ne-IN.true)

pub returns-then-answer-ne-ADDR_ENTRY-clause-reason : goal.returns-then-answer-ne-ADDR_ENTRY-clause-reason
returns-then-answer-ne-ADDR_ENTRY-clause-reason c =
    let a = c.in-None-Some-None in
    let is = answers c.args.packet.now a.answer a.is-0 a.is-1 a.is-2 in
    (c.requires, (c.is_unicast.ensures.0 c.if-not-is_unicast.false, iff_false c.is_challenge.ensures c.if-is_challenge.false, (_, is), (_, is.answer_is, c.if-answer-ne-NB.false), (_, is.answer_is, c.if-answer-ne-IN.false)), unanswered is (λ (x : RecordValue). length x.rdata ≡ 6) c.if-answer-ne-ADDR_ENTRY.true)

pub returns-clause-message : goal.returns-clause-message
returns-clause-message c =
    let a = c.in-None-Some-None in
    let is = answers c.args.packet.now a.answer a.is-0 a.is-1 a.is-2 in
    let r = record_of a.answer in
    let said = c.registration_in-registration in (
      record { response = c.requires.0; opcode_is = sym c.opcode.ensures ∙ c.if-opcode-ne-OPCODE_RELEASE.false; unicast = c.is_unicast.ensures.0 c.if-not-is_unicast.false },
      c.rcode-rcode.ensures,
      r.ttl,
      record {
        rdata = r.rdata;
        id = refl;
        answers = the_answer _ r said.result.name nb is said.ensures.name c.if-answer-ne-NB.false c.if-answer-ne-IN.false;
        entry = said.ensures.entry;
      },
    )
