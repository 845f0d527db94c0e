use Rattle.std.proofs.Common.{arith}
use Rattle.nbt_lease.specs.Drift.{hold}
use Rattle.nbt_lease.proofs.config.Config.hold.Goals as goal

pub returns-clause-value : goal.returns-clause-value
unfolding hold
returns-clause-value c = omega arith
