use Rattle.std.proofs.lemmas.Result.{err_from_is_err_and}
use Rattle.nbt_host.specs.ReleaseLines.{GivesBack, GivingBackFails}
use Rattle.nbt_host.specs.Host.{terms_of}
use Rattle.nbt_host.specs.Running.{before, at_the_end}
use Rattle.nbt_host.proofs.Opened.{over_at}
use Rattle.nbt_host.proofs.host.Host.run.Goals as goal

pub returns-in_err-stay-clause-err : goal.returns-in_err-stay-clause-err
returns-in_err-stay-clause-err g c =
    let p = err_from_is_err_and c.from_residual.result c.from_residual.ensures.1 in
    rw (p.1, p.2) (before _ (record { port = c.args.port.now; host = c.args.self.now; text = g.W.Write.contents c.args.writer.now })
    (record { port = c.stay.new.port; host = c.stay.new.self; text = g.W.Write.contents c.stay.new.writer }) c.in_err-stay.ensures.err)

pub returns-in_err-end-clause-err : goal.returns-in_err-end-clause-err
returns-in_err-end-clause-err g c =
    let p = err_from_is_err_and c.from_residual-in_err-end.result c.from_residual-in_err-end.ensures.1 in
    rw (p.1, p.2) (at_the_end _ c.holds_all-all.result (record { port = c.args.port.now; host = c.args.self.now; text = g.W.Write.contents c.args.writer.now })
    (record { port = c.end.new.port; host = c.end.new.self; text = g.W.Write.contents c.end.new.writer })
    (over_at g.P.Port.does g.K.Clock.tells g.K.Watch.looks c.args.arguments.now c.args.until (λ stayed end. GivingBackFails g.P.Port.does g.K.Clock.tells g.K.Watch.looks (terms_of c.args.arguments.now stayed.host.asked) _ stayed end)
    (record { port = c.args.port.now; host = c.args.self.now; text = g.W.Write.contents c.args.writer.now }) (record { port = c.stay.new.port; host = c.stay.new.self; text = g.W.Write.contents c.stay.new.writer })
    (record { port = c.end.new.port; host = c.end.new.self; text = g.W.Write.contents c.end.new.writer }) _ c.now-now.result c.now-now.new.self c.holds_all-all.result
    c.self.view_is c.in_ok-stay.ensures.ok c.now-now.ensures c.holds_all-all.ensures c.in_err-end.ensures.err))

pub returns-clause-ok : goal.returns-clause-ok
returns-clause-ok g c =
    over_at g.P.Port.does g.K.Clock.tells g.K.Watch.looks c.args.arguments.now c.args.until (λ stayed end. GivesBack g.P.Port.does g.K.Clock.tells g.K.Watch.looks (terms_of c.args.arguments.now stayed.host.asked) stayed end)
    (record { port = c.args.port.now; host = c.args.self.now; text = g.W.Write.contents c.args.writer.now }) (record { port = c.stay.new.port; host = c.stay.new.self; text = g.W.Write.contents c.stay.new.writer })
    (record { port = c.end.new.port; host = c.end.new.self; text = g.W.Write.contents c.end.new.writer }) _ c.now-now.result c.now-now.new.self c.holds_all-all.result
    c.self.view_is c.in_ok-stay.ensures.ok c.now-now.ensures c.holds_all-all.ensures c.in_ok-end.ensures.ok
