use Rattle.std.proofs.Common.{◌≡◌, ◌++◌, length}
use Rattle.nbt_name.proofs.labels.Labels.put.Given as goal

abbrev pub invariant-labels : goal.invariant-labels
invariant-labels g l = l.out.items ++ l.labels ≡ l.fn.out.items ++ l.fn.self

abbrev pub decreases-labels : goal.decreases-labels
decreases-labels g l = length l.labels
