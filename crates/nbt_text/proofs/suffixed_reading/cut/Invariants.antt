use Rattle.std.proofs.Common.{ℕ, ◌<◌, ◌≤◌, ◌-◌, length}
use Rattle.std.specs.Prelude.{slice_index}
use Rattle.nbt_text.specs.SuffixedNames.{IsMark}
use Rattle.nbt_text.proofs.suffixed_reading.cut.Given as goal

abbrev pub invariant-octets : goal.invariant-octets
invariant-octets l = record { within : l.count ≤ length l.word; none : (k : ℕ) → k < l.count → ¬ IsMark (slice_index l.word k) }

abbrev pub decreases-octets : goal.decreases-octets
decreases-octets l = length l.word - l.count
