use Rattle.std.proofs.Common.{◌+◌, ℕ, Some, List, take, refl, sym, subst, arith}
use Rattle.nbt_lease.proofs.Common.{take_all, Lease, IsLeastEnd}
use Rattle.nbt_lease.proofs.Least.{one_on}
use Rattle.nbt_lease.proofs.named.least_of.Goals as goal

pub loop-lease-init : goal.loop-lease-init
loop-lease-init c = refl

pub loop-lease-preserved : goal.loop-lease-preserved
loop-lease-preserved c =
    subst (λ (e : ℕ). IsLeastEnd (take (c.loop-lease.lease-index + 1) c.args.leases.now) (Some e)) (sym c.least_with.ensures)
    (one_on c.args.leases.now c.loop-lease.lease-index _ c.loop-lease.least c.loop-lease-test.true c.loop-lease.invariant)

pub returns : goal.returns
returns c =
    subst (λ (ls : List Lease). IsLeastEnd ls c.loop-lease.least) (take_all c.loop-lease.lease-index c.args.leases.now (omega arith)) c.loop-lease.invariant
