use Rattle.std.proofs.Common.{[], ◌∷◌, ◌++◌, ◌∙◌, refl}
use Rattle.std.proofs.lemmas.Result.{err_from_is_err_and}
use Rattle.nbt_port.specs.PortCalls.{send_failed, route_to}
use Rattle.nbt_client.specs.Turning.{at_send}
use Rattle.nbt_port.proofs.Chains.{chain_one, chain-append}
use Rattle.nbt_client.proofs.Dues.{polls_fewer}
use Rattle.nbt_client.proofs.Sending.{polls_ended, polls_on}
use Rattle.nbt_client.proofs.turning.poll_all.Goals as goal

pub returns-in_err-send-clause-err : goal.returns-in_err-send-clause-err
returns-in_err-send-clause-err g c =
    let p = err_from_is_err_and c.from_residual.result c.from_residual.ensures.1 in
    let so_far = c.loop-to.invariant.polls in
    let d = c.in_err-send.ensures.does in
    let to = c.to.ensures in
    let f = c.as_slice.ensures.value in
    let lost = send_failed (route_to c.in-Some.to) c.next_due.new.out.items in
    rw p.1 (
      so_far.0 ++ lost ∷ [],
      at_send so_far.0 c.loop-to.node c.next_due.new.node c.in-Some.to c.next_due.new.out.items so_far.1 c.in-Some.ensures.due,
      chain-append g.P.Port.does c.args.port.now c.loop-to.port c.send.new.self so_far.0 (lost ∷ []) so_far.2 (chain_one g.P.Port.does c.loop-to.port lost c.send.new.self (rw (to, f) at d)),
    )

pub loop-to-smaller : goal.loop-to-smaller
loop-to-smaller g c = polls_fewer c.settling_ends.ensures c.args.now c.loop-to.node c.next_due.new.node c.in-Some.to c.next_due.new.out.items c.in-Some.ensures.due

pub loop-to-preserved : goal.loop-to-preserved
loop-to-preserved g c =
    let d = c.in_ok-send.ensures.does in
    let to = c.to.ensures in
    let f = c.as_slice.ensures.value in
    record {
      polls = polls_on g.P.Port.does c.args.port.now c.loop-to.port c.send.new.self c.args.now c.args.node.now c.loop-to.node c.next_due.new.node c.in-Some.to c.next_due.new.out.items c.loop-to.invariant.polls c.in-Some.ensures.due (rw (to, f) at d);
      count = c.in_ok-send.ensures.count ∙ c.loop-to.invariant.count;
    }

pub returns-clause-ok : goal.returns-clause-ok
returns-clause-ok g c =
    polls_ended g.P.Port.does c.args.port.now c.loop-to.port c.args.now c.args.node.now c.loop-to.node c.next_due.new.node c.loop-to.invariant.polls (c.in_default.ensures.none refl)
