use Rattle.std.proofs.Common.{arith}
use Rattle.std.proofs.lemmas.List.Edits.{map_over_more}
use Rattle.nbt_host.specs.Goals.{heard_by}
use Rattle.nbt_host.proofs.goal.hear_all.Goals as goal

pub loop-goal-preserved : goal.loop-goal-preserved
loop-goal-preserved g c =
    rw (c.hear.ensures, ← c.goal-item.is) (map_over_more (heard_by c.args.config c.args.node.now c.args.now c.args.notice.now) c.args.goals.now c.loop-goal.goals c.loop-goal.goal-index c.goal-item.result (omega arith) c.loop-goal.invariant c.goal-item.is)
