use Rattle.std.proofs.Common.{◌≡◌, ◌∙◌, ℕ, List, Option, Some, None, refl, sym, ap, arith, rules}
use Rattle.std.specs.Prelude.{◌↔◌, slice_index}
use Rattle.nbt_store.specs.declared.form.Form.{Form as FormValue}
use Rattle.nbt_store.specs.declared.form.Form.TheVariants.{Two, Three}
use Rattle.nbt_store.specs.Forms.{version}
use Rattle.nbt_store.proofs.form.Form.of_line.Goals as goal

apart : version Two ≡ version Three → ⊥
apart e = let last : ◌≡◌ {A = ℕ} 50 51 = ap (λ (line : List ℕ). slice_index line 20) e in omega (arith, last)

is_two : (line : List ℕ) (form : FormValue) → line ≡ version Two → (◌≡◌ {A = Option FormValue} (Some Two) (Some form)) ↔ (line ≡ version form)
is_two line Two is = (λ e. is, λ e. refl)
is_two line Three is = (λ e. absurd cc, λ e. absurd (apart (sym is ∙ e)))

is_three : (line : List ℕ) (form : FormValue) → line ≡ version Three → (◌≡◌ {A = Option FormValue} (Some Three) (Some form)) ↔ (line ≡ version form)
is_three line Three is = (λ e. is, λ e. refl)
is_three line Two is = (λ e. absurd cc, λ e. absurd (apart (sym e ∙ is)))

is_none : (line : List ℕ) (form : FormValue) → (line ≡ version Two → ⊥) → (line ≡ version Three → ⊥) → (◌≡◌ {A = Option FormValue} None (Some form)) ↔ (line ≡ version form)
is_none line Two two three = (λ e. absurd cc, λ e. absurd (two e))
is_none line Three two three = (λ e. absurd cc, λ e. absurd (three e))

pub returns-then-is_first : goal.returns-then-is_first
returns-then-is_first c = λ form. is_two c.args.line.now form (c.is_first.ensures.0 (search rules))

pub returns-then-is_first-2 : goal.returns-then-is_first-2
returns-then-is_first-2 c = λ form. is_three c.args.line.now form (c.is_first-2.ensures.0 (search rules))

pub returns : goal.returns
returns c = λ form. is_none c.args.line.now form (λ e. let is = c.is_first.ensures.1 e in search rules) (λ e. let is = c.is_first-2.ensures.1 e in search rules)
