use Rattle.std.proofs.Common.{◌≡◌, ◌++◌, map, take, drop}
use Rattle.nbt_node.specs.Node.{settled_slot}
use Rattle.nbt_node.proofs.slots.settle.Given as goal

abbrev pub invariant-loop-slot : goal.invariant-loop-slot
invariant-loop-slot l = l.slots ≡ map (settled_slot l.config.life l.now) (take l.slot-index l.initial.slots) ++ drop l.slot-index l.initial.slots
