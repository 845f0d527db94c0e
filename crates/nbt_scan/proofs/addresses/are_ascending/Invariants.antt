use Rattle.std.proofs.Common.{ℕ, ◌<◌, get_or}
use Rattle.nbt_scan.proofs.addresses.are_ascending.Given as goal

abbrev pub invariant-loop-i : goal.invariant-loop-i
invariant-loop-i l = (a b : ℕ) → a < b → b < l.i → get_or l.ips a 0 < get_or l.ips b 0
