use Rattle.std.proofs.Common.{◌≡◌, take}
use Rattle.nbt_store.specs.Resuming.{later_rows}
use Rattle.nbt_store.proofs.resuming.later_rows.Given as goal

abbrev pub invariant-loop-row : goal.invariant-loop-row
invariant-loop-row l = l.later.items ≡ later_rows l.by (take l.row-index l.rows)
