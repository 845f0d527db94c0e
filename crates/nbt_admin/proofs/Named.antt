-- Paths whose last component is a name.
use Rattle.std.proofs.Common.{◌≡◌, ◌∙◌, ℕ, Bool, true, List, [], ◌∷◌, ◌++◌, inl, inr, sym, subst}
use Rattle.std.specs.Prelude.{◌⊎◌}
use Rattle.std.proofs.lemmas.List.{append_cancel_right}
use Rattle.nbt_admin.specs.Serving.{IsNamed, slash}

-- what stands before the name
pub before_name : (name path folder : List ℕ) → path ≡ folder ++ name → IsNamed name path → (folder ≡ []) ⊎ ((rest : List ℕ) × (folder ≡ rest ++ slash ∷ []))
before_name name path folder parts named =
    subst (λ (f : List ℕ). (f ≡ []) ⊎ ((rest : List ℕ) × (f ≡ rest ++ slash ∷ []))) (sym (append_cancel_right folder named.folder name (sym parts ∙ named.path_is))) named.before

-- where something does, and no slash ends it, there is no such name
pub ends_in_slash : (folder : List ℕ) (ends : Bool) → ¬ (folder ≡ []) → ((rest : List ℕ) → folder ≡ rest ++ slash ∷ [] → ends ≡ true) → (folder ≡ []) ⊎ ((rest : List ℕ) × (folder ≡ rest ++ slash ∷ [])) → ends ≡ true
ends_in_slash folder ends some found (inl none) = absurd (some none)
ends_in_slash folder ends some found (inr (rest, is)) = found rest is
