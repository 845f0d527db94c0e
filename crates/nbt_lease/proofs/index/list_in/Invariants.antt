use Rattle.std.proofs.Common.{◌≡◌, ◌++◌, length}
use Rattle.nbt_lease.proofs.Common.{rows_of}
use Rattle.nbt_lease.proofs.index.list_in.Given as goal

abbrev pub invariant-names : goal.invariant-names
invariant-names l = l.out.items ++ rows_of l.rest ≡ l.fn.out.items ++ rows_of l.members.entries

abbrev pub decreases-names : goal.decreases-names
decreases-names l = length l.rest
