use Rattle.std.proofs.Common.{◌≡◌, ◌++◌, map, take, drop, ◌≤◌}
use Rattle.std.specs.Prelude.{count_by}
use Rattle.nbt_dgram.specs.Joiner.{kept, is_old}
use Rattle.nbt_dgram.proofs.slots.give_up.Given as goal

abbrev pub invariant-loop-slot : goal.invariant-loop-slot
invariant-loop-slot l = record {
  kept : l.slots ≡ map (kept l.now) (take l.slot-index l.initial.slots) ++ drop l.slot-index l.initial.slots;
  count : l.count ≡ count_by (is_old l.now) (take l.slot-index l.initial.slots);
  few : l.count ≤ l.slot-index;
}
