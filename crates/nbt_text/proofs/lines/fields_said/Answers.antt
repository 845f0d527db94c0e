use Rattle.std.proofs.Common.{◌≡◌, ◌∙◌, ℕ, List, [], ◌∷◌, Bool, false, Some, inl, inr, length, refl, sym, arith, rules}
use Rattle.std.specs.Prelude.{IsTrue, ◌↔◌, slice_get}
use denote.Ref.{Bor}
use Rattle.nbt_text.specs.Texts.{texts}
use Rattle.nbt_text.specs.Lines.{HasNoField, fields}
use Rattle.nbt_text.proofs.lines.fields_said.Goals as goal

no_texts : (found : List (Bor (List ℕ))) → length found ≡ 0 → texts found ≡ []
no_texts [] e = refl
no_texts (w ∷ ws) e = absurd (omega arith)

not_passed_over : (line : List ℕ) (found : List (Bor (List ℕ))) (remark : Bool) → (IsTrue remark ↔ (slice_get line 0 ≡ Some 35)) → remark ≡ false → texts found ≡ fields line → ¬ (length found ≡ 0) → ¬ (HasNoField line)
not_passed_over line found remark tells other these some (inl e) = let bad = tells.1 e in cc
not_passed_over line [] remark tells other these some (inr e) = some refl
not_passed_over line (w ∷ ws) remark tells other these some (inr e) = let bad = these ∙ e in cc

pub returns-then-is_remark : goal.returns-then-is_remark
returns-then-is_remark c = inl (c.is_remark.ensures.0 c.if-is_remark.true)

pub returns-then-is_empty : goal.returns-then-is_empty
returns-then-is_empty c =
    let none : length c.in_ok-fields.fields.items ≡ 0 = search rules in
    inr (sym c.in_ok-fields.ensures ∙ no_texts c.in_ok-fields.fields.items none)

pub returns : goal.returns
returns c = (
  not_passed_over c.args.line.now c.in_ok-fields.fields.items c.is_remark.result c.is_remark.ensures c.if-is_remark.false c.in_ok-fields.ensures (λ e. search rules),
  c.in_ok-fields.ensures,
)
