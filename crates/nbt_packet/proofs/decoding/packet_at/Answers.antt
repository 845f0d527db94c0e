use Rattle.std.proofs.Common.{sym, ◌∙◌}
use Rattle.nbt_packet.proofs.Common.{err_from_is_err_and, QuestionAt, RecordAt, question_bad, answer_bad, additional_bad, record_if}
use Rattle.nbt_packet.proofs.Header.{questions_most, answers_most, additionals_most, section_by}
use Rattle.nbt_packet.proofs.decoding.packet_at.Goals as goal

pub question_section-requires-clause-one : goal.question_section-requires-clause-one
question_section-requires-clause-one c = questions_most c.args.octets.now c.in_ok-header.header c.in_ok-header.ensures.header

pub record_section-requires-clause-one : goal.record_section-requires-clause-one
record_section-requires-clause-one c = answers_most c.args.octets.now c.in_ok-header.header c.in_ok-header.ensures.header

pub record_section-requires-2-clause-one : goal.record_section-requires-2-clause-one
record_section-requires-2-clause-one c = additionals_most c.args.octets.now c.in_ok-header.header c.in_ok-header.ensures.header

pub returns-in_err-question-clause-fault : goal.returns-in_err-question-clause-fault
returns-in_err-question-clause-fault c =
    let p = err_from_is_err_and c.from_residual-in_err-question.result c.from_residual-in_err-question.ensures.1 in
    let h = c.in_ok-header.ensures.header in
    rw (p.1, p.2) (question_bad _ h.whole (sym h.questions ∙ c.in_err-question.ensures.fault.0) c.in_err-question.ensures.fault.1)

pub returns-in_err-answer-clause-fault : goal.returns-in_err-answer-clause-fault
returns-in_err-answer-clause-fault c =
    let p = err_from_is_err_and c.from_residual-in_err-answer.result c.from_residual-in_err-answer.ensures.1 in
    let h = c.in_ok-header.ensures.header in
    let q = section_by (QuestionAt c.args.octets.now) _ _ 12 c.in_ok-question.question c.in_ok-question.asked h.questions c.in_ok-question.ensures.section in
    rw (p.1, p.2) (answer_bad _ _ _ h.whole q (sym h.answers ∙ c.in_err-answer.ensures.fault.0) c.in_err-answer.ensures.fault.1)

pub returns-in_err-additional-clause-fault : goal.returns-in_err-additional-clause-fault
returns-in_err-additional-clause-fault c =
    let p = err_from_is_err_and c.from_residual-in_err-additional.result c.from_residual-in_err-additional.ensures.1 in
    let h = c.in_ok-header.ensures.header in
    let q = section_by (QuestionAt c.args.octets.now) _ _ 12 c.in_ok-question.question c.in_ok-question.asked h.questions c.in_ok-question.ensures.section in
    let a = section_by (RecordAt c.args.octets.now) _ _ c.in_ok-question.asked (record_if c.in_ok-answer.answer) c.in_ok-answer.answered h.answers c.in_ok-answer.ensures.section in
    rw (p.1, p.2) (additional_bad _ _ _ _ _ h.whole q a (sym h.additionals ∙ c.in_err-additional.ensures.fault.0) c.in_err-additional.ensures.fault.1)

pub returns-clause-packet : goal.returns-clause-packet
returns-clause-packet c =
    let h = c.in_ok-header.ensures.header in
    record {
      asked = c.in_ok-question.asked;
      answered = c.in_ok-answer.answered;
      header = h.whole;
      id = h.id;
      flags = h.flags;
      question = section_by (QuestionAt c.args.octets.now) _ _ 12 c.in_ok-question.question c.in_ok-question.asked h.questions c.in_ok-question.ensures.section;
      answer = section_by (RecordAt c.args.octets.now) _ _ c.in_ok-question.asked (record_if c.in_ok-answer.answer) c.in_ok-answer.answered h.answers c.in_ok-answer.ensures.section;
      additional = section_by (RecordAt c.args.octets.now) _ _ c.in_ok-answer.answered (record_if c.in_ok-additional.additional) c.in_ok-additional.end h.additionals c.in_ok-additional.ensures.section;
    }
