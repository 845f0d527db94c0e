-- Where a text is kept, as the list of leases: over memory, and in a file (our profile).
use Rattle.std.specs.Prelude.{◌≡◌, ℕ, List, [], ◌∷◌, ◌++◌, codes}
use Rattle.nbt_nbns.specs.declared.content.Content.{Content}

-- the text goes last among those that it took
abbrev pub Adds : List (List ℕ) → List ℕ → List (List ℕ) → Type 0
Adds old text new = new ≡ old ++ text ∷ []

-- what a file has, its path, and that of the new one that is written beside it first
pub record FileValue : Type 0 where
  pub content : Content
  pub path : List ℕ
  pub beside : List ℕ

abbrev pub file_of : Content → (path : List ℕ) → FileValue
file_of content path = record { content = content; path = path; beside = path ++ codes ".new" }

-- The place is as before. So is a file that took a text, or refused it: its kind and its paths stay. Which text a file has, no contract can say.
abbrev pub Stays : {L : Type 0} → (old : L) → List ℕ → (new : L) → Type 0
Stays old text new = new ≡ old
