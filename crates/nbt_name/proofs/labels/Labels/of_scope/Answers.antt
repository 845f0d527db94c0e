use Rattle.nbt_name.proofs.Places.{scope_stands, has_row, row_is}
use Rattle.nbt_name.proofs.labels.Labels.of_scope.Goals as goal

pub invariant_of-result : goal.invariant_of-result
invariant_of-result c = has_row c.args.scope.now 0 c.args.scope.now (scope_stands c.args.scope.now c.requires.labels c.requires.fits)

pub returns : goal.returns
returns c = row_is c.args.scope.now 0 c.args.scope.now (scope_stands c.args.scope.now c.requires.labels c.requires.fits)
