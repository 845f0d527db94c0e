use Rattle.std.proofs.Common.{[], sym, refl}
use Rattle.nbt_client.specs.Turning.{may_not_ask}
use Rattle.nbt_client.proofs.Sending.{ask_sent}
use Rattle.nbt_client.proofs.turning.ask.Goals as goal

pub returns-in-Ok-clause-ok : goal.returns-in-Ok-clause-ok
returns-in-Ok-clause-ok g c =
    let e = c.in-Ok.ensures in
    let d = c.send.ensures.does in
    let to = c.to.ensures in
    let f = c.as_slice.ensures.value in
    let s = e.ok in
    ask_sent g.P.Port.does c.args.port.now c.send.new.self c.args.server c.args.now c.args.want.now c.args.node.now c.ask.new.self c.ask.new.out.items c.send.result
    (record { may = rw c.lend.ensures at (sym e.refused); sends = rw c.lend.ensures at e.ok }) (rw (to, f) at d)

pub returns-in-Err-clause-ok : goal.returns-in-Err-clause-ok
returns-in-Err-clause-ok g c =
    let e = c.in-Err.ensures in
    ([], rw e.err.0 (may_not_ask c.in-Err.field-0 (rw c.lend.ensures at (sym e.refused))), refl)
