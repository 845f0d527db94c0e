use Rattle.std.proofs.Common.{None, refl}
use Rattle.nbt_host.proofs.Orders.{request_sent, request_lost}
use Rattle.nbt_host.proofs.requesting.request.Goals as goal

pub returns-then-not-request_for-clause-ok : goal.returns-then-not-request_for-clause-ok
returns-then-not-request_for-clause-ok g c = (None, c.if-not-request_for.ensures, refl)

pub returns-clause-ok : goal.returns-clause-ok
returns-clause-ok g c =
    let d = c.send.ensures.does in
    let to = c.to.ensures in
    let f = c.as_slice.ensures.value in
    request_sent g.P.Port.does c.args.server c.args.now c.args.port.now c.send.new.self c.args.node.now c.request_for.new.node c.args.goal.now c.request_for.new.out.items c.send.result c.if-not-request_for.ensures (rw (to, f) at d)

pub returns-clause-err : goal.returns-clause-err
returns-clause-err g c =
    let d = c.send.ensures.does in
    let to = c.to.ensures in
    let f = c.as_slice.ensures.value in
    request_lost g.P.Port.does c.args.server c.args.now c.args.port.now c.send.new.self c.args.node.now c.request_for.new.node c.args.goal.now c.request_for.new.out.items c.send.result c.if-not-request_for.ensures (rw (to, f) at d)
