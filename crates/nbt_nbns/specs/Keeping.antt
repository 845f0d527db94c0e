-- A text, kept in a place (our profile).
use Rattle.std.specs.Prelude.{◌≡◌, ◌≢◌, ℕ, ◌+◌, ◌≤◌, ⊤, List, Option, Some, None, String}
use Rattle.std.specs.String.{string_bytes}
use Rattle.nbt_nbns.specs.declared.keeper.Kept.{Kept}
use Rattle.nbt_nbns.specs.declared.keeper.Kept.TheVariants as k
use Rattle.nbt_lease.specs.Config.{milliseconds}

-- when it looked last, which text the place has, if it was given one, and the place
pub record KeeperValue (L : Type 0) : Type 0 where
  pub looked : Option ℕ
  pub text : Option (List ℕ)
  pub place : L

-- nothing was looked at yet
abbrev pub new_keeper : {L : Type 0} → L → KeeperValue L
new_keeper place = record { looked = None; text = None; place = place }

abbrev pub text_of : {A : Type 0} → Option (String A) → Option (List ℕ)
text_of None = None
text_of (Some text) = Some (string_bytes text)

-- a second has passed since the last look
abbrev pub IsDue : Option ℕ → (now : ℕ) → Type 0
IsDue None now = ⊤
IsDue (Some looked) now = looked + milliseconds 1 ≤ now

-- A look, where `IsText` says which text there is to keep: not before a second has passed since the last. The place is given the text
-- where it has another one, and may refuse it. Where memory was refused, the place and its text stay; that it was, no contract can say.
pub data Keeps {L : Type 0} (puts refuses : L → List ℕ → L → Type 0) (IsText : List ℕ → Type 0) (now : ℕ) (old : KeeperValue L) : Kept → KeeperValue L → Type 0 where
  early : ¬ IsDue old.looked now → Keeps puts refuses IsText now old k.Early old
  same : (text : List ℕ) → IsDue old.looked now → IsText text → old.text ≡ Some text → Keeps puts refuses IsText now old k.Same (record old { looked = Some now })
  written : (text : List ℕ) (place : L) → IsDue old.looked now → IsText text → old.text ≢ Some text → puts old.place text place
      → Keeps puts refuses IsText now old k.Written (record { looked = Some now; text = Some text; place = place })
  no_memory : IsDue old.looked now → Keeps puts refuses IsText now old k.Failed (record old { looked = Some now })
  refused : (text : List ℕ) (place : L) → IsDue old.looked now → IsText text → old.text ≢ Some text → refuses old.place text place
      → Keeps puts refuses IsText now old k.Failed (record old { looked = Some now; place = place })
