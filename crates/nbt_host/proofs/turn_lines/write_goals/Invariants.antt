use Rattle.std.proofs.Common.{take}
use Rattle.std.specs.String.{string_bytes}
use Rattle.nbt_host.proofs.Lines.{Told}
use Rattle.nbt_host.specs.TurnLines.{TellsGoal}
use Rattle.nbt_host.proofs.turn_lines.write_goals.Given as goal

abbrev pub invariant-loop-goal : goal.invariant-loop-goal
invariant-loop-goal l = Told (TellsGoal l.second l.log) (take l.goal-index l.goals) (string_bytes l.fn.out) (string_bytes l.out)
