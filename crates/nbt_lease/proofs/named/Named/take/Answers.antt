use Rattle.std.proofs.Common.{◌<◌, ◌∷◌, List, length, length-append, sym, ap, subst, ◌∙◌, arith}
use Rattle.nbt_lease.proofs.Common.{Lease, IsLeastEnd}
use Rattle.nbt_lease.proofs.Least.{one_taken}
use Rattle.nbt_lease.proofs.named.Named.take.Goals as goal

pub least_without-self-inside-requires : goal.least_without-self-inside-requires
least_without-self-inside-requires c other =
    let p = c.in_ok-place.ensures in
    let within : c.in_ok-place.place < length c.self.inside.leases.items = omega (arith, ap length (c.self.view_is ∙ p.3.is), length-append p.0 (p.1 ∷ p.2), p.4) in
    subst (λ (ls : List Lease). IsLeastEnd ls c.self.inside.least) (sym (c.as_slice.ensures.value ∙ c.remove-taken.ensures.by_index.2))
    (one_taken c.self.inside.leases.items c.in_ok-place.place c.remove-taken.result c.self.inside.least within c.remove-taken.ensures.value c.self.invariant other)
