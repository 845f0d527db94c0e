use Rattle.std.proofs.Common.{◌≡◌, drop, map}
use Rattle.nbt_node.specs.Node.{has_room, settled_slot}
use Rattle.nbt_node.proofs.slots.has_room.Given as goal

abbrev pub invariant-loop-slot : goal.invariant-loop-slot
invariant-loop-slot l = has_room (map (settled_slot l.config.life l.now) (drop l.slot-index l.slots)) ≡ has_room (map (settled_slot l.config.life l.now) l.slots)
