use Rattle.std.proofs.Common.{◌∙◌, sym, refl}
use Rattle.std.proofs.lemmas.Result.{err_from_is_err_and}
use Rattle.nbt_host.specs.Inner.ReleaseSteps.{sends_none}
use Rattle.nbt_host.proofs.Sendings.{one_sent, one_lost}
use Rattle.nbt_host.proofs.release_sending.send_one.Goals as goal

pub returns-then-not-is_due-clause-ok : goal.returns-then-not-is_due-clause-ok
returns-then-not-is_due-clause-ok g c = sends_none (sym c.is_due.ensures ∙ c.if-not-is_due.true)

pub returns-in_err-send-clause-err : goal.returns-in_err-send-clause-err
returns-in_err-send-clause-err g c =
    let p = err_from_is_err_and c.from_residual.result c.from_residual.ensures.1 in
    let did = c.in_err-send.ensures.does in
    rw p.1 (
      sym c.is_due.ensures ∙ c.if-not-is_due.false,
      one_lost g.P.Port.does c.args.server c.args.own c.args.port.now c.send.new.self c.args.release.now c.request.result c.write.new.out.items c.as_slice.result.now c.request.ensures c.write.ensures c.as_slice.ensures.value (rw c.to.ensures at did),
      refl,
    )

pub returns-clause-ok : goal.returns-clause-ok
returns-clause-ok g c =
    let did = c.in_ok-send.ensures.does in
    one_sent g.P.Port.does c.args.server c.args.own c.args.now c.args.port.now c.send.new.self c.args.release.now c.sent_at.new.self c.request.result c.write.new.out.items c.as_slice.result.now
    (sym c.is_due.ensures ∙ c.if-not-is_due.false) c.request.ensures c.write.ensures c.as_slice.ensures.value (rw c.to.ensures at did) c.sent_at.ensures
