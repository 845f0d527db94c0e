use Rattle.std.proofs.Common.{◌≡◌, ◌++◌, map, take, drop}
use Rattle.nbt_host.specs.Goals.{heard_by}
use Rattle.nbt_host.proofs.goal.hear_all.Given as goal

abbrev pub invariant-loop-goal : goal.invariant-loop-goal
invariant-loop-goal g l = l.goals ≡ map (heard_by l.config l.node l.now l.notice) (take l.goal-index l.initial.goals) ++ drop l.goal-index l.initial.goals
