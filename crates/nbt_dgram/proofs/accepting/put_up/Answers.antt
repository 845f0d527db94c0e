use Rattle.nbt_dgram.specs.Joiner.{waiting, dropped, whole}
use Rattle.nbt_dgram.specs.Accepting.{unfinished, was_dropped}
use Rattle.nbt_dgram.specs.Inner.Accepting.{to_all, to_some}
use Rattle.nbt_dgram.proofs.accepting.put_up.Goals as goal

pub returns-then-is : goal.returns-then-is
returns-then-is g c = rw c.requires.empty (to_all (c.is.ensures.0 c.if-is.true))

pub returns-in-Whole : goal.returns-in-Whole
returns-in-Whole g c =
    to_some (whole c.in-Whole.names c.in-Whole.payload.now) _ _ _ (λ same. let other = c.is.ensures.1 same in let not = c.if-is.false in cc) c.in-Whole.ensures c.hand_up.ensures

pub returns-in-Waiting : goal.returns-in-Waiting
returns-in-Waiting g c = rw c.requires.empty (to_some waiting _ _ _ (λ same. let other = c.is.ensures.1 same in let not = c.if-is.false in cc) c.in-Waiting.ensures unfinished)

pub returns-in-Dropped : goal.returns-in-Dropped
returns-in-Dropped g c =
    rw c.requires.empty (to_some (dropped c.in-Dropped.field-0) _ _ _ (λ same. let other = c.is.ensures.1 same in let not = c.if-is.false in cc) c.in-Dropped.ensures (was_dropped c.in-Dropped.field-0))
