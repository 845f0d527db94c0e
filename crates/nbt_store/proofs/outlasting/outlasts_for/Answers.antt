use Rattle.nbt_store.proofs.Outlasted.{waits}
use Rattle.nbt_store.proofs.outlasting.outlasts_for.Goals as goal

pub returns-in-Ok : goal.returns-in-Ok
returns-in-Ok c = waits c.args.found.now c.in-Some.octets c.in-Ok.loaded.form c.in-Ok.loaded.header c.in-Ok.loaded.times c.in-Ok.loaded.rows.items c.wait_for.result c.in-Some.is c.in-Ok.ensures.loaded c.wait_for.ensures
