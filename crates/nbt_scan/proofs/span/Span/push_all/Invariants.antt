use Rattle.std.proofs.Common.{◌≡◌, ◌+◌, ◌++◌, map}
use Rattle.std.specs.List.{range_with_len}
use Rattle.nbt_scan.proofs.span.Span.push_all.Given as goal

abbrev pub invariant-loop-k : goal.invariant-loop-k
invariant-loop-k l = l.ips.items ≡ l.fn.ips.items ++ map (λ k. l.self.first + k) (range_with_len 0 l.k)
