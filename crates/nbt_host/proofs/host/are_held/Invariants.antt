use Rattle.std.proofs.Common.{◌≡◌, drop}
use Rattle.std.specs.List.{list_all}
use Rattle.nbt_host.specs.Goals.{is_held}
use Rattle.nbt_host.proofs.host.are_held.Given as goal

abbrev pub invariant-loop-goal : goal.invariant-loop-goal
invariant-loop-goal g l = list_all (is_held l.node l.now) (drop l.goal-index l.goals) ≡ list_all (is_held l.node l.now) l.goals
