use Rattle.std.proofs.Common.{◌≡◌, drop, map}
use Rattle.nbt_node.specs.Node.{settled_slot}
use Rattle.nbt_node.specs.Calls.{first_due}
use Rattle.nbt_node.proofs.polling.first_due.Given as goal

abbrev pub invariant-loop-slot : goal.invariant-loop-slot
invariant-loop-slot l = first_due l.config.life l.now (map (settled_slot l.config.life l.now) (drop l.slot-index l.slots)) ≡ first_due l.config.life l.now (map (settled_slot l.config.life l.now) l.slots)
