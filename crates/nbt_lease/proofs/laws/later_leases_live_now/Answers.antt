use Rattle.nbt_lease.proofs.Rows.{later_is}
use Rattle.nbt_lease.proofs.laws.later_leases_live_now.Goals as goal

pub returns : goal.returns
returns c = later_is
