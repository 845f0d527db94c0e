use Rattle.std.proofs.Common.{take}
use Rattle.nbt_lease.proofs.Common.{IsLeastEnd}
use Rattle.nbt_lease.proofs.named.least_of.Given as goal

abbrev pub invariant-loop-lease : goal.invariant-loop-lease
invariant-loop-lease l = IsLeastEnd (take l.lease-index l.leases) l.least
