use Rattle.std.proofs.Common.{arith}
use Rattle.nbt_lease.specs.Drift.{quiet}
use Rattle.nbt_lease.proofs.laws.rest_outlasts_datagrams.Goals as goal

pub returns-clause-moved : goal.returns-clause-moved
unfolding quiet
returns-clause-moved c passed node life fast late = omega (arith, fast.ahead)

pub returns-clause-between : goal.returns-clause-between
unfolding quiet
returns-clause-between c true_then true_now node_then node_now life node late = omega (arith, node.ahead)
