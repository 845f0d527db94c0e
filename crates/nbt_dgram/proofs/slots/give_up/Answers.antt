use Rattle.std.proofs.Common.{◌≡◌, ◌+◌, ◌≤◌, ◌∙◌, cond, ap, arith}
use Rattle.nbt_dgram.specs.Joiner.{kept, is_old}
use Rattle.nbt_dgram.proofs.SlotLists.{map_step, unchanged_at, count_step}
use Rattle.nbt_dgram.proofs.slots.give_up.Goals as goal
use Rattle.nbt_dgram.proofs.slots.give_up.Goals.{then-give_up_one, else-give_up_one}

counted : (c : goal.Joined-give_up_one) → c.if-give_up_one.count ≡ cond c.give_up_one.result (c.loop-slot.count + 1) c.loop-slot.count
counted c = elim c.if-give_up_one.branch [ then-give_up_one w ↦ rw w.if-give_up_one.true w.count-is | else-give_up_one w ↦ rw w.if-give_up_one.false w.count-is ]

few : (c : goal.Joined-give_up_one) → c.if-give_up_one.count ≤ c.loop-slot.slot-index + 1
few c = elim c.if-give_up_one.branch [ then-give_up_one w ↦ omega arith | else-give_up_one w ↦ omega arith ]

pub loop-slot-preserved : goal.loop-slot-preserved
loop-slot-preserved c = record {
  kept = map_step (kept c.args.now) c.args.slots.now c.loop-slot.slots c.loop-slot.slot-index c.slot-item.result c.give_up_one.new.slot c.loop-slot-test.true c.loop-slot.invariant.kept c.slot-item.is c.give_up_one.ensures.kept;
  count = count_step (is_old c.args.now) c.args.slots.now c.loop-slot.slot-index c.slot-item.result c.give_up_one.result c.loop-slot.count c.if-give_up_one.count c.loop-slot-test.true
      (c.give_up_one.ensures.old ∙ ap (is_old c.args.now) (unchanged_at (kept c.args.now) c.args.slots.now c.loop-slot.slots c.loop-slot.slot-index c.slot-item.result c.loop-slot-test.true c.loop-slot.invariant.kept))
      c.loop-slot.invariant.count (counted c);
  few = few c;
}
