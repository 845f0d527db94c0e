use Rattle.std.proofs.Common.{◌≡◌, ◌++◌, map, take, drop}
use Rattle.nbt_host.specs.Goals.{seen}
use Rattle.nbt_host.proofs.goal.see_all.Given as goal

abbrev pub invariant-loop-goal : goal.invariant-loop-goal
invariant-loop-goal g l = l.goals ≡ map (seen l.node l.now) (take l.goal-index l.initial.goals) ++ drop l.goal-index l.initial.goals
