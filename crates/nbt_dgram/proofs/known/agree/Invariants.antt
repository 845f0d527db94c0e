use Rattle.std.proofs.Common.{◌≡◌, ℕ, ◌+◌, ◌<◌, slice_index, Some}
use Rattle.nbt_dgram.specs.Slot.{known_at}
use Rattle.nbt_dgram.proofs.known.agree.Given as goal

abbrev pub invariant-loop-k : goal.invariant-loop-k
invariant-loop-k l = (j octet : ℕ) → j < l.k → known_at l.known (l.begin + j) ≡ Some octet → octet ≡ slice_index l.payload j
