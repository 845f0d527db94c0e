use Rattle.std.proofs.Common.{sym, ◌∙◌}
use Rattle.nbt_store.specs.Resuming.{not_now}
use Rattle.nbt_store.proofs.Deciding.{by_that}
use Rattle.nbt_store.proofs.resuming.resume_with.Goals as goal

pub returns-in-Ok : goal.returns-in-Ok
returns-in-Ok c =
    let loaded = c.args.loaded.now in
    by_that c.args.found.now loaded.form loaded.header loaded.times loaded.rows.items c.in-Ok.onward c.resume_on.result (sym c.why_silent.ensures.value ∙ c.in-Ok.is) c.resume_on.ensures

pub returns-in-Err : goal.returns-in-Err
returns-in-Err c = not_now c.in-Err.why (sym c.why_silent.ensures.value ∙ c.in-Err.is)
