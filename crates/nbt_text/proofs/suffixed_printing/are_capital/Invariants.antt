use Rattle.std.proofs.Common.{◌≡◌, ℕ, ◌<◌}
use Rattle.std.specs.Prelude.{slice_index}
use Rattle.std.specs.Char.{to_ascii_uppercase}
use Rattle.nbt_text.specs.SuffixedNames.{IsMark}
use Rattle.nbt_text.proofs.suffixed_printing.are_capital.Given as goal

abbrev pub invariant-octets : goal.invariant-octets
invariant-octets l = record {
  unmarked : (k : ℕ) → k < l.place → ¬ IsMark (slice_index l.octets k);
  capital : (k : ℕ) → k < l.place → to_ascii_uppercase (slice_index l.octets k) ≡ slice_index l.octets k;
}
