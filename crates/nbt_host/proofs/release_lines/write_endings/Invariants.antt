use Rattle.std.proofs.Common.{take}
use Rattle.std.specs.String.{string_bytes}
use Rattle.nbt_host.proofs.Lines.{Told}
use Rattle.nbt_host.specs.ReleaseLines.{TellsEnding}
use Rattle.nbt_host.proofs.release_lines.write_endings.Given as goal

abbrev pub invariant-loop-goal : goal.invariant-loop-goal
invariant-loop-goal l = Told (TellsEnding l.second) (take l.goal-index l.goals) (string_bytes l.fn.out) (string_bytes l.out)
