use Rattle.std.proofs.Common.{◌≡◌, ◌++◌, map, take, drop}
use Rattle.nbt_dgram.specs.Joiner.{emptied}
use Rattle.nbt_dgram.proofs.slots.empty.Given as goal

abbrev pub invariant-loop-slot : goal.invariant-loop-slot
invariant-loop-slot l = l.slots ≡ map (emptied l.key) (take l.slot-index l.initial.slots) ++ drop l.slot-index l.initial.slots
