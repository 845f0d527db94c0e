-- A text is read in two steps: what it spells, and whether that is taken.
use Rattle.std.proofs.Common.{◌≡◌, Option, Some, None, refl, sym, subst}
use Rattle.std.proofs.lemmas.Bool.{false≢true}
use Rattle.std.specs.Prelude.{IsSome, IfSome, IfNone, ◌↔◌}

-- what is read is spelled, and is taken
pub both : {T : Type 0} (Spells Takes : T → Type 0) (x : T) (r : Option T) → Spells x → (IsSome r ↔ Takes x) → IfSome r (λ y. y ≡ x) → IfSome r (λ y. Spells y × Takes y)
both Spells Takes x None spelled found is = tt
both Spells Takes x (Some y) spelled found is = (subst Spells (sym is) spelled, subst Takes (sym is) (found.0 refl))

-- there is none where what the text spells isn't taken
pub neither : {T : Type 0} (Spells Takes : T → Type 0) (x : T) (r : Option T) → ((y : T) → Spells y → x ≡ y) → (IsSome r ↔ Takes x) → IfNone r ((y : T) → ¬ (Spells y × Takes y))
neither Spells Takes x None one found = λ y taken. false≢true (found.1 (subst Takes (sym (one y taken.0)) taken.1))
neither Spells Takes x (Some y) one found = tt

-- there is one where one is spelled
pub there : {T : Type 0} (Spells : T → Type 0) (r : Option T) → IfNone r ((y : T) → ¬ Spells y) → ((y : T) × Spells y) → IsSome r
there Spells None none (y, is) = absurd (none y is)
there Spells (Some x) none some = refl
