use Rattle.std.proofs.Common.{◌≡◌, ◌++◌, List, ℕ, length}
use Rattle.std.specs.String.{string_bytes}
use Rattle.nbt_name.specs.Scope.{IsScope}
use Rattle.nbt_text.specs.NameText.{PrintsLabels}
use Rattle.nbt_text.proofs.name_text.write_labels.Given as goal

abbrev pub invariant-labels : goal.invariant-labels
invariant-labels l = record {
  is_scope : IsScope l.rest;
  printed : (text : List ℕ) × (string_bytes l.out ≡ string_bytes l.fn.out ++ text) × ((more : List ℕ) → PrintsLabels l.rest more → PrintsLabels l.scope (text ++ more));
}

abbrev pub decreases-labels : goal.decreases-labels
decreases-labels l = length l.rest
