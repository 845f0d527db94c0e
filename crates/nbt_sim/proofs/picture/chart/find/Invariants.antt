use Rattle.std.proofs.Common.{◌≡◌, ℕ, ◌<◌, Some}
use Rattle.std.specs.Prelude.{slice_get}
use Rattle.nbt_sim.proofs.picture.chart.find.Given as goal

abbrev pub invariant-names : goal.invariant-names
invariant-names l = (k : ℕ) → k < l.place → ¬ (slice_get l.names k ≡ Some l.name)
