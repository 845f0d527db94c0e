-- The rows of a list of leases (our profile).
use Rattle.std.specs.Prelude.{ℕ, List, [], ◌∷◌}
use Rattle.nbt_front.specs.Files.{SpellsKind}
use Rattle.nbt_front.specs.Networks.{SpellsIp}
use Rattle.nbt_log.specs.Dates.{IsTimeText}
use Rattle.nbt_text.specs.ScopedNames.{SpellsScopedName}
use Rattle.nbt_text.specs.declared.casing.Case.TheVariants.{Exact}
use Rattle.nbt_lists.specs.declared.list.Row.{Row}

-- four words: a name as it is printed, its kind, its address, and the second in which it ends
pub data SpellsRow : (words : List (List ℕ)) → Row → Type 0 where
  spells : (name kind addr end : List ℕ) (row : Row) → SpellsScopedName Exact name [] row.name → SpellsKind kind row.kind → SpellsIp addr row.addr → IsTimeText row.end end
      → SpellsRow (name ∷ kind ∷ addr ∷ end ∷ []) row
