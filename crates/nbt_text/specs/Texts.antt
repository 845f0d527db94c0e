-- Borrowed texts, and texts one after the other.
use Rattle.std.specs.Prelude.{ℕ, List, [], ◌∷◌, ◌++◌, map}
use denote.Ref.{Bor}

-- the texts, without where they lie in memory
abbrev pub texts : List (Bor (List ℕ)) → List (List ℕ)
texts words = map (λ word. word.now) words

-- the text is that of each of the list, one after the other, as this relation has it
pub data PrintsEach {A : Type 0} (PrintsOne : A → List ℕ → Type 0) : List A → List ℕ → Type 0 where
  none_printed : PrintsEach PrintsOne [] []
  one_printed : (first : A) (others : List A) (text more : List ℕ) → PrintsOne first text → PrintsEach PrintsOne others more → PrintsEach PrintsOne (first ∷ others) (text ++ more)
