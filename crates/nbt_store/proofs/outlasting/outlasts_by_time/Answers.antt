use Rattle.std.proofs.Common.{sym, ◌∙◌}
use Rattle.nbt_store.proofs.Outlasted.{in_time, no_time}
use Rattle.nbt_store.proofs.outlasting.outlasts_by_time.Goals as goal

pub returns-in-Ok : goal.returns-in-Ok
returns-in-Ok c =
    let loaded = c.args.loaded.now in
    in_time c.args.found.now loaded.form loaded.header c.with_limits-header.result loaded.times loaded.rows.items c.in-Ok.onward c.speaks_anew.result c.outlasts_at.result
    c.requires c.with_limits-header.ensures (sym c.why_silent.ensures.value ∙ c.in-Ok.is) c.speaks_anew.ensures.speaks c.outlasts_at.ensures

pub returns-in-Err : goal.returns-in-Err
returns-in-Err c =
    let loaded = c.args.loaded.now in
    no_time c.args.found.now loaded.form loaded.header c.with_limits-header.result loaded.times loaded.rows.items c.in-Err._why c.requires c.with_limits-header.ensures (sym c.why_silent.ensures.value ∙ c.in-Err.is)
