-- How words are put one behind the other (our profile).
use Rattle.std.specs.Prelude.{◌≡◌, ℕ, ◌<◌, ◌≤◌, List, [], ◌∷◌, ◌++◌, length}
use Rattle.std.specs.List.{AllByRecursion}
use Rattle.nbt_text.specs.Lines.{words as words_of}
use Rattle.nbt_store.specs.Lines.{IsLine}

-- octets above the space, one at least
abbrev pub AreAbove : List ℕ → Type 0
AreAbove octets = AllByRecursion (λ octet. 0x21 ≤ octet) octets

pub record IsWord (word : List ℕ) : Type 0 where
  pub some : 0 < length word
  pub marks : AreAbove word

-- One more word stands at the end of a line.
pub record AddsWord (old new word : List ℕ) : Type 0 where
  pub words_are : words_of new ≡ words_of old ++ word ∷ []
  pub line : IsLine old → IsLine new
