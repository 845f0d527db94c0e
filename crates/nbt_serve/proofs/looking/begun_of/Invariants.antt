use Rattle.std.proofs.Common.{◌≡◌}
use Rattle.std.specs.Prelude.{take}
use Rattle.nbt_store.specs.Changes.{begun_all}
use Rattle.nbt_serve.proofs.looking.begun_of.Given as goal

abbrev pub invariant-loop-row : goal.invariant-loop-row
invariant-loop-row l = l.changes.items ≡ begun_all l.at (take l.row-index l.rows.items)
