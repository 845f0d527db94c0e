use Rattle.std.proofs.Common.{◌≡◌, ◌+◌, length}
use Rattle.nbt_name.proofs.labels.Labels.len.Given as goal

abbrev pub invariant-labels : goal.invariant-labels
invariant-labels l = l.count + length l.labels ≡ length l.fn.self

abbrev pub decreases-labels : goal.decreases-labels
decreases-labels l = length l.labels
