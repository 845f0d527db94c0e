use Rattle.std.proofs.lemmas.Result.{err_from_is_err_and}
use Rattle.nbt_serve.proofs.Leaving.{all_left, one_left, none_left}
use Rattle.nbt_serve.proofs.waiting.Waiting.leave.Goals as goal

pub returns-in_err-sync-clause-err : goal.returns-in_err-sync-clause-err
returns-in_err-sync-clause-err g c =
    let p = err_from_is_err_and c.from_residual.result c.from_residual.ensures.1 in
    rw (p.1, p.2)
    (none_left g.P.Port.does g.S.Store.does g.C.Clock.tells c.args.port.now c.args.store.now c.sync.new.store c.args.clock.now c.args.limits.life c.args.self.now c.sync.new.self c.in_err-sync.ensures.err)

pub returns-in_err-send_all-clause-err : goal.returns-in_err-send_all-clause-err
returns-in_err-send_all-clause-err g c =
    let p = err_from_is_err_and c.from_residual-in_err-send_all.result c.from_residual-in_err-send_all.ensures.1 in
    rw (p.1, p.2)
    (one_left g.P.Port.does g.S.Store.does g.C.Clock.tells c.args.port.now c.send_all.new.port c.args.store.now c.sync.new.store c.args.clock.now c.now-now.new.self c.args.limits.life c.now-now.result c.args.self.now c.sync.new.self c.drop_late.new.self
    c.send_all.new.self c.in_ok-sync.ensures.ok.0 c.in_ok-sync.ensures.ok.1 c.now-now.ensures c.drop_late.ensures c.in_err-send_all.ensures.err)

pub returns-clause-ok : goal.returns-clause-ok
returns-clause-ok g c =
    all_left g.P.Port.does g.S.Store.does g.C.Clock.tells c.args.port.now c.send_all.new.port c.args.store.now c.sync.new.store c.args.clock.now c.now-now.new.self c.args.limits.life c.now-now.result c.args.self.now c.sync.new.self c.drop_late.new.self
    c.send_all.new.self c.in_ok-sync.ensures.ok.0 c.in_ok-sync.ensures.ok.1 c.now-now.ensures c.drop_late.ensures c.in_ok-send_all.ensures.ok.0 c.in_ok-send_all.ensures.ok.1
