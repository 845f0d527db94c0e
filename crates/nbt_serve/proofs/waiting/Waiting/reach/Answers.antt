use Rattle.std.proofs.Common.{sym}
use Rattle.std.proofs.lemmas.Result.{err_from_is_err_and}
use Rattle.nbt_serve.proofs.Taking.{not_reached, has_reached}
use Rattle.nbt_serve.proofs.waiting.Waiting.reach.Goals as goal

pub returns-then-not-is_past-clause-ok : goal.returns-then-not-is_past-clause-ok
returns-then-not-is_past-clause-ok g c = not_reached g.S.Store.does c.args.store.now c.args.store.now c.args.self.now c.args.self.now c.args.now (sym c.if-not-is_past.ensures)

pub returns-clause-ok : goal.returns-clause-ok
returns-clause-ok g c =
    let l = rw c.get.ensures.value at c.in_ok-lay_down.ensures.ok in
    has_reached g.S.Store.does c.args.store.now c.lay_down.new.store c.args.self.now c.lay_down.new.self c.args.now (sym c.if-not-is_past.ensures) l.0 l.1

pub returns-in_err-lay_down-clause-err : goal.returns-in_err-lay_down-clause-err
returns-in_err-lay_down-clause-err g c =
    let p = err_from_is_err_and c.from_residual.result c.from_residual.ensures.1 in
    let l = rw c.get.ensures.value at c.in_err-lay_down.ensures.err in
    rw p.1 (sym c.if-not-is_past.ensures, l.0, l.1, l.2, l.3)
