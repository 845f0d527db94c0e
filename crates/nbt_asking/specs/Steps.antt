-- Steps, one after the other.
use Rattle.std.specs.Prelude.{◌≡◌, ℕ, ◌+◌, ◌≤◌}

-- so many of them
pub data Times {S : Type 0} (step : S → S → Type 0) (old : S) : ℕ → S → Type 0 where
  none : Times step old 0 old
  one_more : (n : ℕ) (mid new : S) → Times step old n mid → step mid new → Times step old (n + 1) new

-- As many as there are, and then it ends so; or so many of them.
pub data AsMany {S : Type 0} (most : ℕ) (step ends : S → S → Type 0) (old : S) : S → Type 0 where
  all : (n : ℕ) (last new : S) → n ≤ most → Times step old n last → ends last new → AsMany most step ends old new
  enough : (new : S) → Times step old most new → AsMany most step ends old new

-- there is none, and nothing is done
abbrev pub NoneIsLeft : {S : Type 0} → (S → S → Type 0) → S → S → Type 0
NoneIsLeft step old new = (new ≡ old) × ((next : _) → ¬ step old next)
