use Rattle.std.proofs.Common.{◌≡◌}
use Rattle.std.specs.Prelude.{fold, take}
use Rattle.nbt_log.specs.Gauges.{greater_left}
use Rattle.nbt_log.proofs.gauges.greatest_left.Given as goal

abbrev pub invariant-loop-row : goal.invariant-loop-row
invariant-loop-row l = l.greatest ≡ fold (greater_left l.now) 0 (take l.row-index l.rows)
