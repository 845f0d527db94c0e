use Rattle.std.proofs.Common.{◌≡◌}
use Rattle.std.specs.Prelude.{drop}
use Rattle.nbt_store.specs.Outlasting.{latest}
use Rattle.nbt_store.proofs.outlasting.latest.Given as goal

abbrev pub invariant-loop-row : goal.invariant-loop-row
invariant-loop-row l = latest l.over (drop l.row-index l.rows) ≡ latest l.time l.rows
