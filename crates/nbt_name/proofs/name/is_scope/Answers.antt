use Rattle.std.proofs.Common.{refl, arith}
use Rattle.nbt_name.proofs.Common.{nil_from_length, empty}
use Rattle.nbt_name.proofs.Scopes.{scope_behind}
use Rattle.nbt_name.proofs.name.is_scope.Goals as goal

pub loop-count-preserved : goal.loop-count-preserved
loop-count-preserved c =
    scope_behind c.args.scope.now c.loop-count.rest.now c.in-Some.labels.now c.in-Some.field-0-0.now c.from-count.result c.in-Some.ensures.cases.0 c.from-count.ensures
    (omega arith) c.if-count-gt-LABEL_MOST.false c.if-count-labels.false c.loop-count.invariant

pub returns : goal.returns
returns c = (λ _. c.loop-count.invariant.1 (rw (nil_from_length c.loop-count.rest.now c.in_default.ensures.cases) empty), λ _. refl)
