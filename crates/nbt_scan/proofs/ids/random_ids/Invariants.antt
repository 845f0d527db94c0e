use Rattle.std.proofs.Common.{◌≡◌, length}
use Rattle.nbt_scan.proofs.ids.random_ids.Given as goal

abbrev pub invariant-loop : goal.invariant-loop
invariant-loop g l = length l.ids.items ≡ l.counter
