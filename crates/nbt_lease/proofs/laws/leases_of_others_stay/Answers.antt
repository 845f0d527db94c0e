use Rattle.nbt_lease.proofs.Others.{others_granted, others_released}
use Rattle.nbt_lease.proofs.laws.leases_of_others_stay.Goals as goal

pub returns : goal.returns
returns c = record { granted = others_granted; released = others_released }
