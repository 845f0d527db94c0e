use Rattle.std.proofs.Common.{arith}
use Rattle.std.proofs.lemmas.List.Edits.{map_over_more}
use Rattle.nbt_node.specs.Node.{settled_slot}
use Rattle.nbt_node.proofs.slots.settle.Goals as goal

pub loop-slot-preserved : goal.loop-slot-preserved
loop-slot-preserved c =
    rw (c.settle_slot.ensures, ← c.slot-item.is) (map_over_more (settled_slot c.args.config.life c.args.now) c.args.slots.now c.loop-slot.slots c.loop-slot.slot-index c.slot-item.result (omega arith) c.loop-slot.invariant c.slot-item.is)
