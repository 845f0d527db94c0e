use Rattle.std.proofs.Common.{◌≡◌, ◌+◌, length}
use Rattle.nbt_lease.proofs.Common.{rows_of}
use Rattle.nbt_lease.specs.Lease.{count_of}
use Rattle.nbt_lease.proofs.index.reaches.Given as goal

abbrev pub invariant-names : goal.invariant-names
invariant-names l = l.fn.count + count_of l.now l.addr (rows_of l.rest) ≡ l.left + count_of l.now l.addr (rows_of l.members.entries)

abbrev pub decreases-names : goal.decreases-names
decreases-names l = length l.rest
