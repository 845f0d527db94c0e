-- What the words after a verb spell: kinds of argument, one after the other (our profile).
use Rattle.std.specs.Prelude.{◌≡◌, ℕ, ◌≤◌, List, [], ◌∷◌, length}
use Rattle.arrayvec.specs.ArrayVec.{ArrayVec}
use Rattle.nbt_lease.specs.Config.{ConfigValue, IsLife, IsLongest, IsRows, config_of}
use Rattle.nbt_text.specs.Number.{SpellsNumber}

-- no word is left
abbrev pub NoMore : List (List ℕ) → Unit {0} → Type 0
NoMore words _ = words ≡ []

-- the first word spells one value, and the others spell the others
pub record Then {A B : Type 0} (One : List ℕ → A → Type 0) (Others : List (List ℕ) → B → Type 0) (words : List (List ℕ)) (values : A × B) : Type 0 where
  pub word : List ℕ
  pub rest : List (List ℕ)
  pub words_are : words ≡ word ∷ rest
  pub one : One word values.0
  pub others : Others rest values.1

-- the values one by one
abbrev pub first : {A B : Type 0} → A × B → A
first values = values.0

abbrev pub second : {A B C : Type 0} → A × (B × C) → B
second values = values.1.0

abbrev pub third : {A B C D : Type 0} → A × (B × (C × D)) → C
third values = values.1.1.0

abbrev pub fourth : {A B C D E : Type 0} → A × (B × (C × (D × E))) → D
fourth values = values.1.1.1.0

-- the limits that a world may have
abbrev pub AreLimits : (life longest rows : ℕ) → Type 0
AreLimits life longest rows = IsLife life × IsLongest longest × IsRows rows

-- LIFE LONGEST ROWS NODES: the limits of a world, and how many nodes it has
pub record SpellsWorld (words : List (List ℕ)) (world : ConfigValue × ℕ) : Type 0 where
  pub numbers : ℕ × (ℕ × (ℕ × (ℕ × Unit {0})))
  pub spelled : Then SpellsNumber (Then SpellsNumber (Then SpellsNumber (Then SpellsNumber NoMore))) words numbers
  pub are_limits : AreLimits (first numbers) (second numbers) (third numbers)
  pub world_is : world ≡ (config_of (first numbers) (second numbers) (third numbers), fourth numbers)

-- each word a number
pub data SpellsNumbers : List (List ℕ) → List ℕ → Type 0 where
  no_more : SpellsNumbers [] []
  one_more : (word : List ℕ) (words : List (List ℕ)) (number : ℕ) (numbers : List ℕ) → SpellsNumber word number → SpellsNumbers words numbers → SpellsNumbers (word ∷ words) (number ∷ numbers)

-- by how many milliseconds the ends' clocks go on: no world has more than nine ends
pub record SpellsMoves (words : List (List ℕ)) (moves : ArrayVec ℕ) : Type 0 where
  pub numbers : SpellsNumbers words moves.items
  pub few : length moves.items ≤ 9
