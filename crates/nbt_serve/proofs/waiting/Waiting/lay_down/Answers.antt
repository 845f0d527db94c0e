use Rattle.std.proofs.Common.{[], ◌∷◌, refl, ap, ◌∙◌}
use Rattle.std.proofs.lemmas.Result.{err_from_is_err_and}
use Rattle.nbt_store.specs.Calls.{appended, append_failed, sync_failed}
use Rattle.nbt_serve.specs.Waiting.{dropped, not_appended, not_synced}
use Rattle.nbt_serve.proofs.Leaving.{err_weaker}
use Rattle.nbt_serve.proofs.waiting.Waiting.lay_down.Goals as goal

pub returns-in_err-append-clause-err : goal.returns-in_err-append-clause-err
returns-in_err-append-clause-err g c =
    let p = err_from_is_err_and c.from_residual.result c.from_residual.ensures.1 in
    rw p.1 (append_failed c.args.line.now ∷ [], not_appended, (c.append.new.store, c.in_err-append.ensures.did, refl), c.in_err-append.ensures.err)

pub returns-clause-err : goal.returns-clause-err
returns-clause-err g c =
    err_weaker c.sync.result
    (λ f. (appended c.args.line.now ∷ sync_failed ∷ [], not_synced, (c.append.new.store, c.in_ok-append.ensures.did, (c.sync.new.store, f.1, refl)), f.2 ∙ ap dropped c.in_ok-append.ensures.ok))
    c.sync.ensures.err
