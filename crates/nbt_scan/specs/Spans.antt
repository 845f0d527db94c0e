-- Runs of addresses (our profile).
use Rattle.std.specs.Prelude.{ℕ, ◌+◌, ◌-◌, ◌≤◌, ◌↔◌, List, length, map}
use Rattle.std.specs.List.{Contains, flat_map, range_with_len, sum_by}
use Rattle.nbt_scan.specs.declared.span.Span.{Span}
use Rattle.nbt_scan.specs.Plans.{AreAscending, addresses_most}

abbrev pub size_of : Span → ℕ
size_of span = span.last - span.first + 1

-- its addresses, from the first to the last
abbrev pub ips_of : Span → List ℕ
ips_of span = map (λ k. span.first + k) (range_with_len 0 (size_of span))

-- they have few addresses, each counted as often as a run has it
abbrev pub AreFew : List Span → Type 0
AreFew spans = sum_by size_of spans ≤ addresses_most

-- the addresses of runs, each once
pub record AreOf (spans : List Span) (ips : List ℕ) : Type 0 where
  pub ascending : AreAscending ips
  pub same : (ip : ℕ) → Contains ips ip ↔ Contains (flat_map ips_of spans) ip
  pub few : length ips ≤ addresses_most
