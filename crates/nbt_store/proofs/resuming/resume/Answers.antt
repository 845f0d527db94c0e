use Rattle.nbt_store.specs.Resuming.{nothing_kept}
use Rattle.nbt_store.proofs.Deciding.{when_loaded, when_refused}
use Rattle.nbt_store.proofs.resuming.resume.Goals as goal

pub returns-in-Ok : goal.returns-in-Ok
returns-in-Ok c = when_loaded c.args.found.now c.in-Some.octets c.in-Ok.loaded.form c.in-Ok.loaded.header c.in-Ok.loaded.times c.in-Ok.loaded.rows.items c.resume_with.result c.in-Some.is c.in-Ok.ensures.loaded c.resume_with.ensures

pub returns-in-Err : goal.returns-in-Err
returns-in-Err c = when_refused c.args.found.now c.in-Some.octets c.in-Err.why c.refused_as.result c.in-Some.is c.in-Err.ensures.refused c.refused_as.ensures

pub returns-in-None : goal.returns-in-None
returns-in-None c = nothing_kept c.in-None.is
