use Rattle.std.proofs.Common.{arith}
use Rattle.nbt_packet.proofs.Common.{err_from_is_err_and, header_cut, questions, answers, authorities, additionals}
use Rattle.nbt_packet.proofs.Header.{counts_fit, count_fault}
use Rattle.nbt_packet.proofs.decoding.header_of.Goals as goal

pub returns-in_err-id-clause-fault : goal.returns-in_err-id-clause-fault
returns-in_err-id-clause-fault c =
    let p = err_from_is_err_and c.from_residual.result c.from_residual.ensures.1 in
    rw (p.1, p.2, c.in_err-id.ensures.cut.1) (header_cut (omega (arith, c.in_err-id.ensures.cut.0)) (counts_fit _ _ (λ h. absurd (omega (arith, c.in_err-id.ensures.cut.0))) (λ h. absurd (omega (arith, c.in_err-id.ensures.cut.0))) (λ h. absurd (omega (arith, c.in_err-id.ensures.cut.0))) (λ h. absurd (omega (arith, c.in_err-id.ensures.cut.0)))))

pub returns-in_err-flags-clause-fault : goal.returns-in_err-flags-clause-fault
returns-in_err-flags-clause-fault c =
    let p = err_from_is_err_and c.from_residual-in_err-flags.result c.from_residual-in_err-flags.ensures.1 in
    rw (p.1, p.2, c.in_err-flags.ensures.cut.1) (header_cut (omega (arith, c.in_err-flags.ensures.cut.0)) (counts_fit _ _ (λ h. absurd (omega (arith, c.in_err-flags.ensures.cut.0))) (λ h. absurd (omega (arith, c.in_err-flags.ensures.cut.0))) (λ h. absurd (omega (arith, c.in_err-flags.ensures.cut.0))) (λ h. absurd (omega (arith, c.in_err-flags.ensures.cut.0)))))

pub returns-in_err-questions-clause-fault : goal.returns-in_err-questions-clause-fault
returns-in_err-questions-clause-fault c =
    let p = err_from_is_err_and c.from_residual-in_err-questions.result c.from_residual-in_err-questions.ensures.1 in
    rw (p.1, p.2) (count_fault _ 4 1 _ questions (counts_fit _ 4 (λ h. absurd (omega arith)) (λ h. absurd (omega arith)) (λ h. absurd (omega arith)) (λ h. absurd (omega arith))) c.in_err-questions.ensures.fault)

pub returns-in_err-answers-clause-fault : goal.returns-in_err-answers-clause-fault
returns-in_err-answers-clause-fault c =
    let p = err_from_is_err_and c.from_residual-in_err-answers.result c.from_residual-in_err-answers.ensures.1 in
    let q = c.in_ok-questions.ensures.count in
    rw (p.1, p.2) (count_fault _ 6 1 _ answers (counts_fit _ 6 (λ h. rw (← q.1) q.2) (λ h. absurd (omega arith)) (λ h. absurd (omega arith)) (λ h. absurd (omega arith))) c.in_err-answers.ensures.fault)

pub returns-in_err-count-clause-fault : goal.returns-in_err-count-clause-fault
returns-in_err-count-clause-fault c =
    let p = err_from_is_err_and c.from_residual-in_err-count.result c.from_residual-in_err-count.ensures.1 in
    let q = c.in_ok-questions.ensures.count in
    let a = c.in_ok-answers.ensures.count in
    rw (p.1, p.2) (count_fault _ 8 0 _ authorities (counts_fit _ 8 (λ h. rw (← q.1) q.2) (λ h. rw (← a.1) a.2) (λ h. absurd (omega arith)) (λ h. absurd (omega arith))) c.in_err-count.ensures.fault)

pub returns-in_err-additionals-clause-fault : goal.returns-in_err-additionals-clause-fault
returns-in_err-additionals-clause-fault c =
    let p = err_from_is_err_and c.from_residual-in_err-additionals.result c.from_residual-in_err-additionals.ensures.1 in
    let q = c.in_ok-questions.ensures.count in
    let a = c.in_ok-answers.ensures.count in
    let n = c.in_ok-count.ensures.count in
    rw (p.1, p.2) (count_fault _ 10 1 _ additionals (counts_fit _ 10 (λ h. rw (← q.1) q.2) (λ h. rw (← a.1) a.2) (λ h. rw (← n.1) n.2) (λ h. absurd (omega arith))) c.in_err-additionals.ensures.fault)

pub returns-clause-header : goal.returns-clause-header
returns-clause-header c =
    let q = c.in_ok-questions.ensures.count in
    let a = c.in_ok-answers.ensures.count in
    let n = c.in_ok-count.ensures.count in
    let r = c.in_ok-additionals.ensures.count in
    record {
      whole = (r.0, counts_fit _ 12 (λ h. rw (← q.1) q.2) (λ h. rw (← a.1) a.2) (λ h. rw (← n.1) n.2) (λ h. rw (← r.1) r.2));
      id = c.in_ok-id.ensures.word.1;
      flags = c.in_ok-flags.ensures.word.1;
      questions = q.1;
      answers = a.1;
      additionals = r.1;
    }
