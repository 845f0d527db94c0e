use Rattle.std.proofs.Common.{map, take}
use Rattle.std.specs.Prelude.{is_some}
use Rattle.nbt_node.specs.Node.{settled_slot}
use Rattle.nbt_node.specs.Calls.{first_due}
use Rattle.nbt_node.specs.Waiting.{IsFirst}
use Rattle.nbt_node.proofs.waiting.slots_next_due.Given as goal

abbrev pub invariant-loop-slot : goal.invariant-loop-slot
invariant-loop-slot l = IsFirst (λ now. is_some (first_due l.config.life now (map (settled_slot l.config.life now) (take l.slot-index l.slots)))) l.since l.next
