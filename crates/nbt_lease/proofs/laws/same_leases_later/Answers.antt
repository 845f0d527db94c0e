use Rattle.nbt_lease.proofs.Rows.{same_later}
use Rattle.nbt_lease.proofs.laws.same_leases_later.Goals as goal

pub returns : goal.returns
returns c = same_later
