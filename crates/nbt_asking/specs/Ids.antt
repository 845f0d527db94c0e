-- Ids that were given, in order.
use Rattle.std.specs.Prelude.{◌≡◌, ℕ, List, [], ◌∷◌, Option, Some, None}

-- the first of them is drawn, or none
abbrev pub DrawsFirst : List ℕ → Option ℕ → List ℕ → Type 0
DrawsFirst [] drawn new = (drawn ≡ None) × (new ≡ [])
DrawsFirst (id ∷ ids) drawn new = (drawn ≡ Some id) × (new ≡ ids)
