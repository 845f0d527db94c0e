use Rattle.std.proofs.lemmas.Result.{err_from_is_err_and}
use Rattle.nbt_front.proofs.Passing.{hands_nothing, hands_other, is_answered, is_not_answered}
use Rattle.nbt_front.proofs.port.FrontPort.pass.Goals as goal

pub returns-in_default-clause-does : goal.returns-in_default-clause-does
returns-in_default-clause-does g c =
    λ before did. hands_nothing g.P.Port.does c.args.self.now.desk before c.args.self.now.port c.args.from c.args.octets.now.items c.in_default.is did

pub returns-in_default-decide-clause-does : goal.returns-in_default-decide-clause-does
returns-in_default-decide-clause-does g c =
    let desk = c.self.inside.desk in
    let passed = rw c.as_slice.ensures.value at c.in_default-decide.ensures.passed in
    let front = rw c.decide.ensures.stays at c.hand_on.ensures.front in
    let past = rw c.decide.ensures.stays at c.hand_on.ensures.past in
    let leaves = rw (c.decide.ensures.stays, c.as_slice-in_default-decide.ensures.value) at c.hand_on.ensures.left in
    rw (← c.self.view_is) (λ before did.
    hands_other g.P.Port.does desk before c.self.inside.beneath c.args.from c.args.octets.now.items passed.0 c.in-Some.route c.in-Some.is did c.hand_on.new.self front past passed.1 leaves)

pub returns-in_err-send-clause-does : goal.returns-in_err-send-clause-does
returns-in_err-send-clause-does g c =
    let p = err_from_is_err_and c.from_residual.result c.from_residual.ensures.1 in
    let decided = rw c.as_slice.ensures.value at c.in-Some-decide.ensures.decided in
    let fails = rw c.as_slice-2.ensures.value at c.in_err-send.ensures.does in
    rw (p.1, c.decide.ensures.stays, ← c.self.view_is) (λ before did.
    is_not_answered g.P.Port.does c.self.inside.desk before c.self.inside.beneath c.args.from c.args.octets.now.items decided.0 c.in-Some.route c.in-Some.is did c.in-Some-decide.decision decided.1 decided.2
    c.decide.new.reply.items c.send.new.self decided.3 decided.4 decided.5 fails)

pub returns-clause-does : goal.returns-clause-does
returns-clause-does g c =
    let decided = rw c.as_slice.ensures.value at c.in-Some-decide.ensures.decided in
    let sends = rw c.as_slice-2.ensures.value at c.in_ok-send.ensures.does in
    rw (c.note.ensures, c.decide.ensures.stays, ← c.self.view_is) (λ before did.
    is_answered g.P.Port.does c.self.inside.desk before c.self.inside.beneath c.args.from c.args.octets.now.items decided.0 c.in-Some.route c.in-Some.is did c.in-Some-decide.decision decided.1 decided.2
    c.decide.new.reply.items c.send.new.self decided.3 decided.4 decided.5 sends)
