use Rattle.std.proofs.Common.{ℕ, List, Some, map, take, sym, subst, arith}
use Rattle.nbt_confirm.specs.Waiting.{IsFirst}
use Rattle.nbt_confirm.specs.declared.waits.Pending.{Pending}
use Rattle.nbt_confirm.proofs.Times.{map_more}
use Rattle.nbt_confirm.proofs.waits.first_query.Goals as goal

pub loop-one-preserved : goal.loop-one-preserved
loop-one-preserved c =
    subst (λ (times : List ℕ). IsFirst times (Some c.earlier.result)) (sym (map_more (λ (p : Pending). p.due) c.args.pending.now c.loop-one.one-index c.one-item.result (omega arith) c.one-item.is))
    (c.earlier.ensures (map (λ (p : Pending). p.due) (take c.loop-one.one-index c.args.pending.now)) c.loop-one.invariant)
