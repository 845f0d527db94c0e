use Rattle.std.proofs.Common.{[], arith}
use Rattle.nbt_name.proofs.Common.{empty}
use Rattle.nbt_name.proofs.Places.{scope_stands, has_row, row_is}
use Rattle.nbt_name.proofs.labels.Labels.none.Goals as goal

pub invariant_of-result : goal.invariant_of-result
invariant_of-result c = has_row [] 0 [] (scope_stands [] empty (omega arith))

pub returns : goal.returns
returns c = row_is [] 0 [] (scope_stands [] empty (omega arith))
