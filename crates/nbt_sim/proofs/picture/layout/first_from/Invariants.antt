use Rattle.std.proofs.Common.{◌-◌, ◌≤◌}
use Rattle.nbt_sim.proofs.picture.layout.first_from.Given as goal

abbrev pub invariant-halves : goal.invariant-halves
invariant-halves l = l.low ≤ l.high

abbrev pub decreases-halves : goal.decreases-halves
decreases-halves l = l.high - l.low
