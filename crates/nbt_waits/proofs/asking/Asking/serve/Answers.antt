use Rattle.std.specs.List.{find}
use Rattle.nbt_confirm.specs.Waiting.{answer_of, served_by}
use Rattle.nbt_waits.specs.Doing.{done_by}
use Rattle.nbt_waits.specs.Settling.{waits_for}
use Rattle.nbt_waits.proofs.Passing.{at_none, none_served, none_waits}
use Rattle.nbt_waits.proofs.Serving.{serves_one}
use Rattle.nbt_waits.proofs.asking.Asking.serve.Goals as goal

pub returns-in_err-served-clause-none : goal.returns-in_err-served-clause-none
returns-in_err-served-clause-none c =
    let test = waits_for c.args.machine.now in
    let none = none_served (served_by (answer_of c.args.machine.now)) (find test c.args.self.now.waits.requests) c.in_err-served.ensures.served in
    at_none c.from_residual.result (none_waits test c.args.self.now c.serve.new.self none c.in_err-served.ensures.requests)

pub returns-clause-served : goal.returns-clause-served
returns-clause-served c =
    serves_one c.args.table.now c.args.now c.args.machine.now c.args.self.now c.in_ok-served.served c.serve.new.self c.further_in-further.result (done_by c.settle.result c.settle.new.out.items c.settle.new.self)
    c.in_ok-served.ensures.served c.in_ok-served.ensures.requests c.further_in-further.ensures c.settle.ensures
