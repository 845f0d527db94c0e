use Rattle.std.proofs.Common.{◌++◌, Some, sym, subst}
use Rattle.nbt_confirm.specs.Waiting.{IsFirst, end_in}
use Rattle.nbt_confirm.specs.declared.request.Awaits.{Awaits}
use Rattle.nbt_confirm.proofs.waits.with_end.Goals as goal

pub returns-in-LeaseEnd : goal.returns-in-LeaseEnd
returns-in-LeaseEnd c times first = subst (λ (a : Awaits). IsFirst (times ++ end_in a) (Some c.earlier.result)) (sym c.in-LeaseEnd.is) (c.earlier.ensures times first)
