use Rattle.std.proofs.Common.{◌↔◌, length}
use Rattle.nbt_name.proofs.Common.{IsScope}
use Rattle.nbt_name.proofs.name.is_scope.Given as goal

abbrev pub invariant-loop-count : goal.invariant-loop-count
invariant-loop-count l = IsScope l.fn.scope ↔ IsScope l.rest

abbrev pub decreases-loop-count : goal.decreases-loop-count
decreases-loop-count l = length l.rest
