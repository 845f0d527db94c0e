use Rattle.std.proofs.Common.{◌≡◌, length}
use Rattle.nbt_name.proofs.Common.{◌↔◌}
use Rattle.nbt_name.proofs.labels.Labels.are.Given as goal

abbrev pub invariant-labels : goal.invariant-labels
invariant-labels l = (l.fn.self ≡ l.fn.others) ↔ (l.labels ≡ l.others)

abbrev pub decreases-labels : goal.decreases-labels
decreases-labels l = length l.labels
