use Rattle.std.proofs.Common.{◌≡◌, ◌≢◌, ◌<◌, ℕ, length, arith, Some, List, ◌∷◌, ◌++◌, get_or, set, ap, sym, subst, ◌∙◌}
use Rattle.nbt_lease.proofs.Common.{set-append_seam, get_or-append_seam, Lease, IsLeastEnd}
use Rattle.nbt_lease.proofs.Least.{one_set}
use Rattle.nbt_lease.proofs.named.Named.set_end.Goals as goal

pub least_without-self-inside-requires : goal.least_without-self-inside-requires
least_without-self-inside-requires c other =
    let lease : Lease = c.index_mut-lease.result.now in
    let within : c.args.place < length c.self.inside.leases.items = omega (arith, c.requires, ap length c.self.view_is) in
    subst (λ (ls : List Lease). IsLeastEnd ls (Some c.least_with.result)) (sym c.as_slice.ensures.value)
    (subst (λ (e : ℕ). IsLeastEnd (set c.self.inside.leases.items c.args.place (record lease { end = c.args.end })) (Some e)) (sym c.least_with.ensures)
    (one_set c.self.inside.leases.items c.args.place lease c.args.end c.self.inside.least within c.index_mut-lease.ensures.value c.self.invariant
    (subst (λ (e : ℕ). Some e ≢ Some lease.end) c.least_with.ensures other)))

pub returns : goal.returns
returns c before lease behind is at =
    let items = c.self.view_is ∙ is in
    let found : c.index_mut-lease.result.now ≡ lease =
    c.index_mut-lease.ensures.value ∙ (ap (λ (ls : List Lease). get_or ls c.args.place c.index_mut-lease.result.now) items
    ∙ (ap (λ (n : ℕ). get_or (before ++ lease ∷ behind) n c.index_mut-lease.result.now) (sym at) ∙ get_or-append_seam before lease behind c.index_mut-lease.result.now)) in
    ap (λ (l : Lease). set c.self.inside.leases.items c.args.place (record l { end = c.args.end })) found
    ∙ (ap (λ (ls : List Lease). set ls c.args.place (record lease { end = c.args.end })) items
    ∙ (ap (λ (n : ℕ). set (before ++ lease ∷ behind) n (record lease { end = c.args.end })) (sym at) ∙ set-append_seam before lease behind (record lease { end = c.args.end })))
