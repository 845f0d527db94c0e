use Rattle.std.proofs.Common.{◌∙◌, arith, refl}
use Rattle.std.proofs.lemmas.Result.{err_from_is_err_and}
use Rattle.nbt_host.proofs.Orders.{requested_none, requested_on, requested_all, requests_broken}
use Rattle.nbt_host.proofs.requesting.request_all.Goals as goal

pub loop-goal-init : goal.loop-goal-init
loop-goal-init g c = record { requested = requested_none g.P.Port.does c.args.server c.args.now c.args.port.now c.args.node.now; count = refl }

pub loop-goal-preserved : goal.loop-goal-preserved
loop-goal-preserved g c = record {
  requested = requested_on g.P.Port.does c.args.server c.args.now c.args.port.now c.loop-goal.port c.request.new.port c.args.node.now c.loop-goal.node c.request.new.node c.args.goals.now c.loop-goal.goal-index c.goal-item.result
      c.loop-goal-test.true c.goal-item.is c.loop-goal.invariant.requested c.in_ok-request.ensures.ok;
  count = c.in_ok-request.ensures.device ∙ c.loop-goal.invariant.count;
}

pub returns-clause-ok : goal.returns-clause-ok
returns-clause-ok g c =
    requested_all g.P.Port.does c.args.server c.args.now c.args.port.now c.loop-goal.port c.args.node.now c.loop-goal.node c.args.goals.now c.loop-goal.goal-index (omega arith) c.loop-goal.invariant.requested

pub returns-in_err-request-clause-err : goal.returns-in_err-request-clause-err
returns-in_err-request-clause-err g c =
    let p = err_from_is_err_and c.from_residual.result c.from_residual.ensures.1 in
    rw p.1 (requests_broken g.P.Port.does c.args.server c.args.now c.args.port.now c.loop-goal.port c.request.new.port c.args.node.now c.loop-goal.node c.request.new.node c.args.goals.now c.loop-goal.goal-index c.goal-item.result
    c.loop-goal-test.true c.goal-item.is c.loop-goal.invariant.requested c.in_err-request.ensures.err)
