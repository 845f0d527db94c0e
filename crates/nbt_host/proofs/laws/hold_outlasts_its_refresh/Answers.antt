use Rattle.std.proofs.Common.{arith}
use Rattle.nbt_lease.specs.Drift.{hold}
use Rattle.nbt_host.proofs.laws.hold_outlasts_its_refresh.Goals as goal

pub returns : goal.returns
unfolding hold
returns c seconds life long lives = omega arith
