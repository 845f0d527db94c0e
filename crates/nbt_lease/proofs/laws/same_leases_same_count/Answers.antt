use Rattle.nbt_lease.proofs.Counts.{same_count}
use Rattle.nbt_lease.proofs.laws.same_leases_same_count.Goals as goal

pub returns : goal.returns
returns c = same_count
