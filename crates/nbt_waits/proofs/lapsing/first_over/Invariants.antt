use Rattle.std.proofs.Common.{◌≡◌, drop}
use Rattle.std.specs.List.{find}
use Rattle.nbt_waits.specs.Lapsing.{is_over}
use Rattle.nbt_waits.proofs.lapsing.first_over.Given as goal

abbrev pub invariant-loop-row : goal.invariant-loop-row
invariant-loop-row l = find (is_over l.now) (drop l.row-index l.rows) ≡ find (is_over l.now) l.rows
