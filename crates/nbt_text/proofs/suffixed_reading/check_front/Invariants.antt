use Rattle.std.proofs.Common.{ℕ, ◌<◌}
use Rattle.std.specs.Prelude.{slice_index}
use Rattle.nbt_text.specs.SuffixedNames.{IsPlain}
use Rattle.nbt_text.proofs.suffixed_reading.check_front.Given as goal

abbrev pub invariant-places : goal.invariant-places
invariant-places l = (k : ℕ) → k < l.place → IsPlain (slice_index l.front k)
