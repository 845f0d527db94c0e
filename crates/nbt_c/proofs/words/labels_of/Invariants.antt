use Rattle.nbt_c.proofs.Common.{◌++◌, ◌+◌, ◌*◌, ◌≤◌, List, ℕ, length, IsScope, PrintsLabels}
use Rattle.nbt_c.proofs.words.labels_of.Given as goal

abbrev pub invariant-labels : goal.invariant-labels
invariant-labels l = record {
  is_scope : IsScope l.rest;
  printed : (more : List ℕ) → PrintsLabels l.rest more → PrintsLabels l.name.scope (l.out.items ++ more);
  room : length l.out.items + 5 * length l.rest ≤ 1105;
}

abbrev pub decreases-labels : goal.decreases-labels
decreases-labels l = length l.rest
