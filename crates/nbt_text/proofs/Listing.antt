-- A list that is printed one after the other.
use Rattle.std.proofs.Common.{◌≡◌, ℕ, List, [], ◌∷◌, ◌++◌, sym, ◌∙◌, subst, append_assoc}
use Rattle.std.proofs.lemmas.List.{append-nil}
use Rattle.nbt_text.specs.Texts.{PrintsEach, none_printed, one_printed}

-- `after` has the texts of those before the rest: whatever text the rest has, that of all ends in it
abbrev pub IsListed : {A : Type 0} → (PrintsOne : A → List ℕ → Type 0) → (all rest : List A) → (before after : List ℕ) → Type 0
IsListed PrintsOne all rest before after = (tail : List ℕ) → PrintsEach PrintsOne rest tail → (text : List ℕ) × PrintsEach PrintsOne all text × (before ++ text ≡ after ++ tail)

-- one more was printed
pub one_more : {A : Type 0} (PrintsOne : A → List ℕ → Type 0) (all rest others : List A) (first : A) (before after text : List ℕ) → rest ≡ first ∷ others → PrintsOne first text
    → IsListed PrintsOne all rest before after → IsListed PrintsOne all others before (after ++ text)
one_more {A} PrintsOne all rest others first before after text parts prints listed = λ tail printed.
    let whole = listed (text ++ tail) (subst (λ (z : List A). PrintsEach PrintsOne z (text ++ tail)) (sym parts) (one_printed first others text tail prints printed)) in
    (whole.0, whole.1, whole.2 ∙ sym (append_assoc after text tail))

-- all were
pub all_listed : {A : Type 0} (PrintsOne : A → List ℕ → Type 0) (all rest : List A) (before after : List ℕ) → rest ≡ [] → IsListed PrintsOne all rest before after
    → (text : List ℕ) × PrintsEach PrintsOne all text × (after ≡ before ++ text)
all_listed {A} PrintsOne all rest before after none listed =
    let whole = listed [] (subst (λ (z : List A). PrintsEach PrintsOne z []) (sym none) none_printed) in
    (whole.0, whole.1, sym (whole.2 ∙ append-nil after))
