use Rattle.nbt_lease.proofs.Counts.{one_more}
use Rattle.nbt_lease.proofs.laws.one_more_lives.Goals as goal

pub returns : goal.returns
returns c = one_more
