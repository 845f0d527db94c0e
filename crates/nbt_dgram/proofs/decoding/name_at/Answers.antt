use Rattle.std.proofs.Common.{refl}
use Rattle.nbt_dgram.specs.Inner.Decoding.{name_bad}
use Rattle.nbt_dgram.proofs.decoding.name_at.Goals as goal

pub returns-in-Err-clause-fault : goal.returns-in-Err-clause-fault
returns-in-Err-clause-fault c = rw c.fault_within.ensures (name_bad c.in-Err.fault ((c.in-Err.ensures.fault c.in-Err.fault).0 refl))
