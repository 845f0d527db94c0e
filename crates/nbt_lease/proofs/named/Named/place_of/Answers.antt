use Rattle.std.proofs.Common.{◌≡◌, List, length, subst, ◌∙◌, arith}
use Rattle.nbt_lease.proofs.Common.{Lease, IsMember}
use Rattle.nbt_lease.proofs.Ending.{found_at}
use Rattle.nbt_lease.proofs.named.Named.place_of.Goals as goal

pub returns-then-lease-addr : goal.returns-then-lease-addr
returns-then-lease-addr c =
    subst (λ (ls : List Lease). (before : List Lease) × (lease : Lease) × (behind : List Lease) × IsMember c.args.addr ls before lease behind × (length before ≡ c.loop-place.place)) (c.deref-lease-items.ensures.value ∙ c.self.view_is)
    (found_at c.args.addr c.loop-place.place c.deref-lease-items.result.now _ (omega arith) c.if-lease-addr.true)
