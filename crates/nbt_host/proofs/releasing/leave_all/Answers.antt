use Rattle.std.proofs.Common.{arith}
use Rattle.std.proofs.lemmas.List.Edits.{map_over_more}
use Rattle.nbt_host.specs.Releasing.{leaving}
use Rattle.nbt_host.proofs.releasing.leave_all.Goals as goal

pub loop-goal-preserved : goal.loop-goal-preserved
loop-goal-preserved c =
    rw (← c.goal-item.is) (map_over_more leaving c.args.goals.now c.loop-goal.goals c.loop-goal.goal-index c.goal-item.result (omega arith) c.loop-goal.invariant c.goal-item.is)
