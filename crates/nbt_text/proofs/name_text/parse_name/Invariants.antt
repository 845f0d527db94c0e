use Rattle.std.specs.Prelude.{◌↔◌}
use Rattle.nbt_name.specs.Scope.{IsScope}
use Rattle.nbt_name.specs.Wire.{NameValue}
use Rattle.nbt_text.specs.NameText.{SpellsName}
use Rattle.nbt_text.proofs.NameText.{Left, tail}
use Rattle.nbt_text.proofs.Splitting.{left}
use Rattle.nbt_text.proofs.name_text.parse_name.Given as goal

abbrev pub invariant-labels : goal.invariant-labels
invariant-labels l = record {
  is_scope : IsScope l.scope.items;
  left : (name : NameValue) → SpellsName l.text name ↔ Left l.octets l.scope.items (tail l.rest) name;
}

abbrev pub decreases-labels : goal.decreases-labels
decreases-labels l = left l.rest
