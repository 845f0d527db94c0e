use Rattle.std.proofs.Common.{◌≡◌}
use Rattle.std.specs.Prelude.{fold, take}
use Rattle.nbt_log.specs.Gauges.{less_left}
use Rattle.nbt_log.proofs.gauges.least_left.Given as goal

abbrev pub invariant-loop-row : goal.invariant-loop-row
invariant-loop-row l = l.least ≡ fold (less_left l.now) 0 (take l.row-index l.rows)
