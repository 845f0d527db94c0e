use Rattle.nbt_world.proofs.Starting.{limit_kept, rows_kept}
use Rattle.nbt_world.proofs.laws.limits_keep_the_facts.Goals as goal

pub returns-clause-clients : goal.returns-clause-clients
returns-clause-clients c = limit_kept

pub returns-clause-rows : goal.returns-clause-rows
returns-clause-rows c = rows_kept
