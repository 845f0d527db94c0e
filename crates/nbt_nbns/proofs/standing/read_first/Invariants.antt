use Rattle.std.proofs.Common.{◌-◌, ◌≤◌, length}
use Rattle.nbt_nbns.proofs.standing.read_first.Given as goal

abbrev pub invariant-loop-count : goal.invariant-loop-count
invariant-loop-count g l = l.count ≤ length l.octets

abbrev pub decreases-loop-count : goal.decreases-loop-count
decreases-loop-count g l = length l.octets - l.count
