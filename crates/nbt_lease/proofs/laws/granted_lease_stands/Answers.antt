use Rattle.nbt_lease.proofs.Others.{lease_stands, beside}
use Rattle.nbt_lease.proofs.laws.granted_lease_stands.Goals as goal

pub returns : goal.returns
returns c = record { lease = lease_stands; beside = beside }
