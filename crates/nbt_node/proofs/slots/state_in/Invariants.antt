use Rattle.std.proofs.Common.{◌≡◌, drop}
use Rattle.nbt_node.specs.Node.{state_in}
use Rattle.nbt_node.proofs.slots.state_in.Given as goal

abbrev pub invariant-loop-slot : goal.invariant-loop-slot
invariant-loop-slot l = state_in (drop l.slot-index l.slots) l.name ≡ state_in l.slots l.name
