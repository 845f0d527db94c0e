use Rattle.std.proofs.Common.{ℕ, Some, List, [], ◌∷◌, ◌++◌, sym, subst}
use Rattle.nbt_lease.proofs.Common.{Lease, IsLeastEnd}
use Rattle.nbt_lease.proofs.Least.{one_more}
use Rattle.nbt_lease.proofs.named.Named.push.Goals as goal

pub invariant_of-self-2 : goal.invariant_of-self-2
invariant_of-self-2 c =
    subst (λ (ls : List Lease). IsLeastEnd ls (Some c.least_with.result)) (sym c.in_ok-push.ensures.items)
    (subst (λ (e : ℕ). IsLeastEnd (c.self.inside.leases.items ++ c.args.lease ∷ []) (Some e)) (sym c.least_with.ensures) (one_more c.self.inside.leases.items c.args.lease c.self.inside.least c.self.invariant))
