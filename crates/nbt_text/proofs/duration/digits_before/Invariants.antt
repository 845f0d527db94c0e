use Rattle.std.proofs.Common.{ℕ, ◌<◌, ◌≤◌, ◌-◌, length}
use Rattle.std.specs.Prelude.{slice_index}
use Rattle.nbt_text.specs.Inner.Blanks.{IsNoDigit}
use Rattle.nbt_text.proofs.duration.digits_before.Given as goal

abbrev pub invariant-octets : goal.invariant-octets
invariant-octets l = record { within : l.count ≤ length l.text; none : (k : ℕ) → k < l.count → ¬ IsNoDigit (slice_index l.text k) }

abbrev pub decreases-octets : goal.decreases-octets
decreases-octets l = length l.text - l.count
