use Rattle.std.proofs.Common.{sym}
use Rattle.nbt_world.specs.Step.{gives_back, release_refused}
use Rattle.nbt_world.proofs.node_call.release.Goals as goal

pub returns-in-Ok : goal.returns-in-Ok
returns-in-Ok c = λ number. rw (← c.requires) (gives_back number _ _ _ (rw c.lend.ensures at (sym c.in-Ok.ensures.refused)) (rw c.lend.ensures at c.in-Ok.ensures.ok))

pub returns-in-Err : goal.returns-in-Err
returns-in-Err c = λ number. rw (c.number.ensures, c.in-Err.ensures.err.0) (release_refused number _ _ (rw c.lend.ensures at (sym c.in-Err.ensures.refused)))
