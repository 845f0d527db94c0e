use Rattle.nbt_dgram.specs.Inner.Joining.{disagrees, unfinished, finished}
use Rattle.nbt_dgram.proofs.slots.join_slot.Goals as goal

pub returns-then-not-agrees : goal.returns-then-not-agrees
returns-then-not-agrees c = disagrees (λ agrees. let yes_it_does = c.agrees.ensures.1 agrees in cc)

pub returns-then-put_together : goal.returns-then-put_together
returns-then-put_together c = rw c.join.ensures (finished _ _ (c.agrees.ensures.0 c.if-not-agrees.false) (rw c.join.ensures at (c.put_together.ensures.whole c.if-put_together.true)))

pub returns-else-put_together : goal.returns-else-put_together
returns-else-put_together c = rw c.join.ensures (unfinished (c.agrees.ensures.0 c.if-not-agrees.false) (rw c.join.ensures at (c.put_together.ensures.unfinished c.if-put_together.false)))
