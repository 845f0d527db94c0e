use Rattle.std.proofs.Common.{arith, subst}
use Rattle.nbt_admin.specs.Statuses.{AskedOf, asked_none}
use Rattle.nbt_admin.proofs.Asked.{asked_on, asked_all}
use Rattle.nbt_admin.proofs.statuses.ask_in_turn.Goals as goal

pub loop-request-init : goal.loop-request-init
loop-request-init g c = record { asked = asked_none (g.W.Write.contents c.args.writer.now); bound = omega arith }

pub loop-request-preserved : goal.loop-request-preserved
loop-request-preserved g c = record {
  asked = rw c.greatest-status.ensures (asked_on c.args.many c.args.requests.now c.loop-request.request-index c.request-item.result c.loop-request.status c.in_ok-one.one (g.W.Write.contents c.args.writer.now) (g.W.Write.contents c.loop-request.writer) (g.W.Write.contents c.ask_one.new.writer)
      c.loop-request-test.true c.loop-request.invariant.asked (subst (λ request. AskedOf c.args.many request c.in_ok-one.one (g.W.Write.contents c.loop-request.writer) (g.W.Write.contents c.ask_one.new.writer)) c.request-item.is c.in_ok-one.ensures.done));
  bound = omega (arith, c.greatest-status.ensures, c.loop-request.invariant.bound, c.in_ok-one.ensures.bound);
}

pub returns-clause-done : goal.returns-clause-done
returns-clause-done g c = asked_all c.args.many c.args.requests.now c.loop-request.request-index c.loop-request.status (g.W.Write.contents c.args.writer.now) (g.W.Write.contents c.loop-request.writer) (omega arith) c.loop-request.invariant.asked
