use Rattle.std.proofs.lemmas.Result.{err_from_is_err_and}
use Rattle.nbt_serve.proofs.Looked.{not_laid, not_begun}
use Rattle.nbt_serve.proofs.looking.begin.Goals as goal

pub returns-in_err-lay_down_look-clause-err : goal.returns-in_err-lay_down_look-clause-err
returns-in_err-lay_down_look-clause-err g c =
    let e = c.in_err-lay_down_look.ensures.err in
    let p = err_from_is_err_and c.from_residual.result c.from_residual.ensures.1 in
    rw p.1 (not_laid g.S.Store.does c.args.time c.args.at c.args.waiting.now c.args.store.now c.lay_down_look.new.store c.lay_down_look.new.waiting e)

pub returns-clause-err : goal.returns-clause-err
returns-clause-err g c =
    let o = c.in_ok-lay_down_look.ensures.ok in
    not_begun g.S.Store.does c.args.time c.args.at c.args.waiting.now c.args.store.now c.lay_down_look.new.store c.begin_renewal.new.self c.lay_down_look.new.waiting o.0 o.1 _ _ c.begin_renewal.result c.begin_renewal.ensures
