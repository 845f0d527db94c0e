use Rattle.std.proofs.Common.{◌≡◌, drop}
use Rattle.std.specs.List.{find}
use Rattle.nbt_confirm.specs.Further.{is_next}
use Rattle.nbt_waits.proofs.lapsing.next_in.Given as goal

abbrev pub invariant-loop-row : goal.invariant-loop-row
invariant-loop-row l = find (is_next l.now l.name l.holder) (drop l.row-index l.rows) ≡ find (is_next l.now l.name l.holder) l.rows
