-- The place of an address in an ascending list.
use Rattle.std.proofs.Common.{◌≡◌, ◌≢◌, ℕ, ◌<◌, ◌≤◌, List, length, get_or, Ok, Err, Some, None, Result, ⊎_elim, arith, MatchResult}
use Rattle.std.specs.List.Sorted.{IsBinarySearchResult}
use Rattle.std.specs.Ordering.{nat_cmp}
use Rattle.std.proofs.lemmas.List.Sorted.{searched}
use Rattle.std.proofs.lemmas.Bool.{cases_lt, cases_eq}
use Rattle.nbt_scan.specs.Plans.{AreAscending, IsPlaceOf}

rises : (ips : List ℕ) → AreAscending ips → (i j : ℕ) → i ≤ j → j < length ips → get_or ips i 0 ≤ get_or ips j 0
rises ips up i j le lt = ⊎_elim (λ (same : i ≡ j). rw same (omega arith)) (λ (other : i ≢ j). omega (arith, up i j (omega (arith, other)) lt)) (cases_eq i j)

found_there : (ips : List ℕ) (ip : ℕ) (r : Result ℕ ℕ) → MatchResult r (λ i. (i < length ips) × (get_or ips i 0 ≡ ip)) (λ i. (i ≤ length ips) × ((k : ℕ) → k < i → get_or ips k 0 < ip) × ((k : ℕ) → i ≤ k → k < length ips → ip < get_or ips k 0))
    → (place : ℕ) → r ≡ Ok place → IsPlaceOf ips ip (Some place)
found_there ips ip (Ok i) h place is = let e : i ≡ place = cc in rw (← e) h
found_there ips ip (Err i) h place is = absurd cc

found_nowhere : (ips : List ℕ) (ip : ℕ) (r : Result ℕ ℕ) → MatchResult r (λ i. (i < length ips) × (get_or ips i 0 ≡ ip)) (λ i. (i ≤ length ips) × ((k : ℕ) → k < i → get_or ips k 0 < ip) × ((k : ℕ) → i ≤ k → k < length ips → ip < get_or ips k 0))
    → (gap : ℕ) → r ≡ Err gap → IsPlaceOf ips ip None
found_nowhere ips ip (Ok i) h gap is = absurd cc
found_nowhere ips ip (Err i) h gap is = λ k lt same. ⊎_elim (λ (below : k < i). omega (arith, h.1 k below, same)) (λ (above : i ≤ k). omega (arith, h.2 k above lt, same)) (cases_lt k i)

pub has_place : (ips : List ℕ) (ip place : ℕ) (r : Result ℕ ℕ) → AreAscending ips → IsBinarySearchResult (λ y. nat_cmp y ip) ips r → r ≡ Ok place → IsPlaceOf ips ip (Some place)
has_place ips ip place r up h is = found_there ips ip r (searched ips ip r h (rises ips up)) place is

pub has_no_place : (ips : List ℕ) (ip gap : ℕ) (r : Result ℕ ℕ) → AreAscending ips → IsBinarySearchResult (λ y. nat_cmp y ip) ips r → r ≡ Err gap → IsPlaceOf ips ip None
has_no_place ips ip gap r up h is = found_nowhere ips ip r (searched ips ip r h (rises ips up)) gap is
