use Rattle.std.proofs.Common.{◌≡◌, ◌+◌, ℕ, append_assoc, arith}
use Rattle.std.proofs.lemmas.List.FromFn.{map-range_with_len_more}
use Rattle.nbt_scan.proofs.span.Span.push_all.Goals as goal

pub loop-k-preserved : goal.loop-k-preserved
loop-k-preserved c =
    let more = map-range_with_len_more (λ (k : ℕ). c.args.self.now.first + k) 0 c.loop-k.k c.loop-k.k (let e : 0 + c.loop-k.k ≡ c.loop-k.k = omega arith in e) in
    rw (more, c.in_ok-push.ensures.items, c.loop-k.invariant) (append_assoc c.args.ips.now.items _ _)
