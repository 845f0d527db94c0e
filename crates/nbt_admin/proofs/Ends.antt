-- Addresses from a first to a last, of which each is of one machine.
use Rattle.std.proofs.Common.{◌≡◌, ◌≤◌, ◌<◌, ◌+◌, ◌-◌, ℕ, inl, inr, arith}
use Rattle.std.specs.Prelude.{◌≢◌}
use Rattle.nbt_admin.specs.Texts.{IsOfOne, AreOfOne}

pub below_multicast : (first last : ℕ) → 0x01000000 ≤ first → last < 0xE0000000 → AreOfOne first last
below_multicast first last some less ip from to = (omega (arith, some, from), (inl (omega (arith, less, to)), (λ all. absurd (omega (arith, all, less, to)))))

pub above_multicast : (first last : ℕ) → 0xF0000000 ≤ first → last < 0xFFFFFFFF → AreOfOne first last
above_multicast first last more less ip from to = (omega (arith, more, from), (inr (omega (arith, more, from)), (λ all. absurd (omega (arith, all, less, to)))))

in_multicast : (ip : ℕ) → 0xE0000000 ≤ ip → ip < 0xF0000000 → ¬ IsOfOne ip
in_multicast ip from to (some, (inl less, other)) = absurd (omega (arith, from, less))
in_multicast ip from to (some, (inr more, other)) = absurd (omega (arith, to, more))

pub over_multicast : (first last : ℕ) → first ≤ last → 0xE0000000 ≤ last → first < 0xF0000000 → ¬ AreOfOne first last
over_multicast first last order high low all =
    in_multicast (first + (0xE0000000 - first)) (omega arith) (omega (arith, low)) (all (first + (0xE0000000 - first)) (omega arith) (omega (arith, order, high)))

pub below_machines : (first last : ℕ) → first ≤ last → first < 0x01000000 → ¬ AreOfOne first last
below_machines first last order low all = let high = (all first (omega arith) order).0 in absurd (omega (arith, low, high))

pub to_all : (first last : ℕ) → first ≤ last → 0xFFFFFFFF ≤ last → last ≤ 0xFFFFFFFF → ¬ AreOfOne first last
to_all first last order most fits all = (all last order (omega arith)).1.1 (omega (arith, most, fits))
