use Rattle.std.proofs.Common.{ℕ, subst}
use Rattle.nbt_lease.specs.Lease.{TableValue, leases_at}
use Rattle.nbt_serve.specs.Inner.Telling.{Tells}
use Rattle.nbt_serve.proofs.Told.{is_change}
use Rattle.nbt_serve.proofs.changing.change_of.Goals as goal

pub returns : goal.returns
returns c =
    is_change c.args.outcome.now c.args.server.now c.change_by.result
    (subst (λ (n : ℕ). Tells n (leases_at n c.args.server.now.table.rows) c.args.outcome.now c.change_by.result) c.last.ensures.last
    (subst (λ (t : TableValue). Tells c.last.result (leases_at c.last.result t.rows) c.args.outcome.now c.change_by.result) c.table.ensures.table c.change_by.ensures))
