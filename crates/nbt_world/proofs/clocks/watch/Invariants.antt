-- The ends below the number were looked at.
use Rattle.nbt_world.proofs.Watching.{Watched}
use Rattle.nbt_world.proofs.clocks.watch.Given as goal

abbrev pub invariant-loop-number : goal.invariant-loop-number
invariant-loop-number l = Watched l.fn.least l.least l.clocks l.number l.kept
