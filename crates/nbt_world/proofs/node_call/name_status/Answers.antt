use Rattle.std.proofs.Common.{sym}
use Rattle.nbt_world.specs.Step.{asks_status, status_refused}
use Rattle.nbt_world.proofs.node_call.name_status.Goals as goal

pub returns-in-Ok : goal.returns-in-Ok
returns-in-Ok c = λ number. (asks_status number _ _ _ _ (sym c.in-Ok.ensures.refused) (rw c.lend.ensures at c.in-Ok.ensures.ok))

pub returns-in-Err : goal.returns-in-Err
returns-in-Err c = λ number. rw (c.number.ensures, c.in-Err.ensures.err.0) (status_refused number _ _ _ (sym c.in-Err.ensures.refused))
