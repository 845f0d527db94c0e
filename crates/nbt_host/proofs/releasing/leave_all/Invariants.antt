use Rattle.std.proofs.Common.{◌≡◌, ◌++◌, map, take, drop}
use Rattle.nbt_host.specs.Releasing.{leaving}
use Rattle.nbt_host.proofs.releasing.leave_all.Given as goal

abbrev pub invariant-loop-goal : goal.invariant-loop-goal
invariant-loop-goal l = l.goals ≡ map leaving (take l.goal-index l.initial.goals) ++ drop l.goal-index l.initial.goals
