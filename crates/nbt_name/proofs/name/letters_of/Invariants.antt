use Rattle.std.proofs.Common.{◌≡◌, ℕ, ◌<◌, length}
use Rattle.nbt_name.proofs.Letters.{HalvesAt}
use Rattle.nbt_name.proofs.name.letters_of.Given as goal

abbrev pub invariant-loop-k : goal.invariant-loop-k
invariant-loop-k l = (length l.letters ≡ 32) × ((i : ℕ) → i < l.k → HalvesAt l.octets l.letters i)
