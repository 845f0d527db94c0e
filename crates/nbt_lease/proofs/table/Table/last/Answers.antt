use Rattle.std.proofs.Common.{subst}
use Rattle.nbt_lease.proofs.Common.{TableValue, leases_at, IsSound}
use Rattle.nbt_lease.proofs.table.Table.last.Goals as goal

pub returns-clause-sound : goal.returns-clause-sound
returns-clause-sound c = subst (λ (t : TableValue). IsSound t.config t.last (leases_at t.last t.rows)) c.self.view_is c.self.invariant.1
