use Rattle.std.proofs.lemmas.Result.{err_from_is_err_and}
use Rattle.nbt_asking.specs.Port.{comes_back, fails, passes}
use Rattle.nbt_asking.proofs.port.AskingPortPort.receive.Goals as goal

pub returns-in-Some-clause-does : goal.returns-in-Some-clause-does
returns-in-Some-clause-does g c = rw (← c.self.view_is) (comes_back c.in-Some.route c.take_back.new.octets.items c.take_back.new.self c.in-Some.ensures.back)

pub returns-in_err-from-clause-does : goal.returns-in_err-from-clause-does
returns-in_err-from-clause-does g c =
    let p = err_from_is_err_and c.from_residual.result c.from_residual.ensures.1 in
    let none = c.in_default.ensures.none in
    rw (p.1, none.1, ← c.self.view_is) (fails c.receive.new.self none.0 c.in_err-from.ensures.does)

pub returns-clause-does : goal.returns-clause-does
returns-clause-does g c =
    let none = c.in_default.ensures.none in
    let passed = rw (none.1, c.flags-flags.ensures) at c.pass.ensures in
    rw (← c.self.view_is) (passes c.in_ok-from.from c.pass.result c.receive.new.octets.items c.pass.new.octets.items c.receive.new.self c.pass.new.self none.0 c.in_ok-from.ensures.does passed)
