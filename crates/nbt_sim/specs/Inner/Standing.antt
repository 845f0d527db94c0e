-- What stands in a chart.
use Rattle.std.specs.Prelude.{◌≡◌, ℕ, List, Some, slice_get}

-- It stands at no place.
abbrev pub IsAbsent : {X : Type 0} → X → List X → Type 0
IsAbsent x xs = (place : ℕ) → ¬ (slice_get xs place ≡ Some x)
