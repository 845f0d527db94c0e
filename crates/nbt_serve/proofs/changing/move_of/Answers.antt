use Rattle.std.proofs.Common.{◌≢◌, ◌++◌, ◌∷◌, [], List, sym, ap, ◌∙◌, append_assoc}
use Rattle.nbt_lease.specs.declared.lease.Lease.{Lease}
use Rattle.nbt_lease.proofs.Sound.{all_joined}
use Rattle.nbt_serve.proofs.changing.move_of.Goals as goal

pub loop-lease-preserved : goal.loop-lease-preserved
loop-lease-preserved c =
    let before : List Lease = c.loop-lease.invariant.2 in (
      tt,
      tt,
      before ++ c.in-Some.lease ∷ [],
      all_joined (λ (l : Lease). l.addr ≢ c.args.claim.now.addr) before (c.in-Some.lease ∷ []) c.loop-lease.invariant.3 (c.if-lease-claim.false, tt),
      append_assoc before (c.in-Some.lease ∷ []) c.next.new.self ∙ (ap (λ (ls : List Lease). before ++ ls) (sym c.in-Some.ensures.steps) ∙ c.loop-lease.invariant.4),
    )
