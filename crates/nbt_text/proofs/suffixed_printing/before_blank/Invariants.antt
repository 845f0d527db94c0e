use Rattle.std.proofs.Common.{ℕ, ◌<◌, ◌≤◌, ◌-◌, length}
use Rattle.std.specs.Prelude.{slice_index}
use Rattle.nbt_text.specs.Inner.Blanks.{IsBlank}
use Rattle.nbt_text.proofs.suffixed_printing.before_blank.Given as goal

abbrev pub invariant-octets : goal.invariant-octets
invariant-octets l = record { within : l.count ≤ length l.octets; none : (k : ℕ) → k < l.count → ¬ IsBlank (slice_index l.octets k) }

abbrev pub decreases-octets : goal.decreases-octets
decreases-octets l = length l.octets - l.count
