use Rattle.std.proofs.Common.{◌≤◌, length}
use Rattle.nbt_name.specs.Labels.{LabelsAt}
use Rattle.nbt_name.proofs.labels.Labels.next.Given as goal

abbrev pub invariant-pointers : goal.invariant-pointers
invariant-pointers l = (l.place ≤ length l.octets) × LabelsAt l.octets l.place l.fn.self

abbrev pub decreases-pointers : goal.decreases-pointers
decreases-pointers l = l.place
