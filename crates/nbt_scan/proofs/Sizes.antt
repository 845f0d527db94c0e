-- How many addresses runs have.
use Rattle.std.proofs.Common.{ℕ, ◌+◌, ◌≤◌, List, length, ap, ◌∙◌, sum_by}
use Rattle.std.specs.List.{flat_map}
use Rattle.std.proofs.lemmas.List.Concat.{length-flat_map}
use Rattle.std.proofs.lemmas.List.FromFn.{length-map-range_with_len}
use Rattle.nbt_scan.specs.declared.span.Span.{Span}
use Rattle.nbt_scan.specs.Spans.{size_of, ips_of, AreFew}

pub all_few : (spans : List Span) → AreFew spans → length (flat_map ips_of spans) ≤ 65536
all_few spans few = rw (length-flat_map ips_of spans ∙ ap (λ (f : Span → ℕ). sum_by f spans) (λ i s. length-map-range_with_len (λ (k : ℕ). s.first + k) 0 (size_of s) i)) few
