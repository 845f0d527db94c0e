use Rattle.std.proofs.Common.{◌≡◌, ◌++◌, length}
use Rattle.nbt_front.proofs.standing.copy_rows.Given as goal

abbrev pub invariant-rows : goal.invariant-rows
invariant-rows l = l.out.items ++ l.rest ≡ l.fn.out.items ++ l.rows

abbrev pub decreases-rows : goal.decreases-rows
decreases-rows l = length l.rest
