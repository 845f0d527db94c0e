use Rattle.std.proofs.Common.{◌≡◌, ◌*◌, ◌%◌, ◌≤◌, length, take}
use Rattle.std.specs.List.{flat_map}
use Rattle.nbt_node.specs.Datagrams.{listed}
use Rattle.nbt_node.proofs.status.list_all.Given as goal

abbrev pub invariant-loop-slot : goal.invariant-loop-slot
invariant-loop-slot l = (l.names.items ≡ flat_map (listed l.asked.scope) (take l.slot-index l.slots)) × (length l.names.items ≤ 18 * l.slot-index) × (length l.names.items % 18 ≡ 0)
