use Rattle.std.proofs.Common.{arith}
use Rattle.nbt_lease.specs.Drift.{hold}
use Rattle.nbt_lease.proofs.laws.hold_ends_first.Goals as goal

pub returns-clause-moved : goal.returns-clause-moved
unfolding hold
returns-clause-moved c passed node server seconds slow fast early = omega (arith, slow.back, fast.ahead)

pub returns-clause-between : goal.returns-clause-between
unfolding hold
returns-clause-between c true_then true_now node_then node_now server_then server_now seconds node server on early = omega (arith, node.back, server.ahead)
