use Rattle.nbt_dgram.specs.Joiner.{emptied}
use Rattle.nbt_dgram.proofs.SlotLists.{map_step}
use Rattle.nbt_dgram.proofs.slots.empty.Goals as goal

pub loop-slot-preserved : goal.loop-slot-preserved
loop-slot-preserved c =
    map_step (emptied c.args.key.now) c.args.slots.now c.loop-slot.slots c.loop-slot.slot-index c.slot-item.result c.empty_one.new.slot c.loop-slot-test.true c.loop-slot.invariant c.slot-item.is c.empty_one.ensures
