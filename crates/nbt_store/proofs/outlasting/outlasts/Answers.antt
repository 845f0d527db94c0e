use Rattle.nbt_store.specs.Outlasting.{nothing_there, a_file}
use Rattle.nbt_store.proofs.Outlasted.{when_refused}
use Rattle.nbt_store.proofs.outlasting.outlasts.Goals as goal

pub returns-in-Ok : goal.returns-in-Ok
returns-in-Ok c = a_file c.in-Some.octets c.in-Ok.loaded.form c.in-Ok.loaded.header c.in-Ok.loaded.times c.in-Ok.loaded.rows.items c.outlasts_with.result c.in-Some.is c.in-Ok.ensures.loaded c.outlasts_with.ensures

pub returns-in-Err : goal.returns-in-Err
returns-in-Err c = when_refused c.args.found.now c.in-Some.octets c.in-Err.why c.without_leases.result c.in-Some.is c.in-Err.ensures.refused c.without_leases.ensures

pub returns-in-None : goal.returns-in-None
returns-in-None c = nothing_there c.in-None.is
