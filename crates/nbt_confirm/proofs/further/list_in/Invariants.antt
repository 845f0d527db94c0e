use Rattle.std.proofs.Common.{◌≡◌, ◌≤◌, length, take}
use Rattle.nbt_confirm.specs.Further.{listed_at}
use Rattle.nbt_confirm.proofs.further.list_in.Given as goal

abbrev pub invariant-loop-row : goal.invariant-loop-row
invariant-loop-row l = record {
  so_far : l.out.items ≡ listed_at l.now l.name l.holder (take l.row-index l.rows);
  few : length l.out.items ≤ 16;
}
