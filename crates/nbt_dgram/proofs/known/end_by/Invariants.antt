use Rattle.std.proofs.Common.{◌≡◌, ℕ, ◌<◌, ◌≤◌, Some}
use Rattle.nbt_dgram.specs.Slot.{known_at}
use Rattle.nbt_dgram.proofs.known.end_by.Given as goal

abbrev pub invariant-loop-place : goal.invariant-loop-place
invariant-loop-place l = (p octet : ℕ) → l.end ≤ p → p < l.place → known_at l.known p ≡ Some octet → ⊥
