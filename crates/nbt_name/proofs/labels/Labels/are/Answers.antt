use Rattle.std.proofs.Common.{◌≡◌, ◌≢◌, List, ℕ, Bool, true, false, not, sym, ap, ◌∙◌, ◌++◌, inl, inr}
use Rattle.nbt_name.proofs.Common.{bytes_eq, bytes_eq-Decides, cases_Bool}
use Rattle.nbt_name.proofs.Places.{same_front}
use Rattle.nbt_name.proofs.labels.Labels.are.Goals as goal

told_apart : (x y : List ℕ) (ne : Bool) → ne ≡ not (bytes_eq x y) → ne ≡ true → x ≢ y
told_apart x y ne is true_is e =
    let clash : true ≡ false = sym true_is ∙ is ∙ ap not ((bytes_eq-Decides x y).1 e) in
    absurd cc

told_same : (x y : List ℕ) (ne : Bool) → ne ≡ not (bytes_eq x y) → ne ≡ false → x ≡ y
told_same x y ne is false_is = elim (cases_Bool (bytes_eq x y)) [
  | inl e ↦ (bytes_eq-Decides x y).0 e
  | inr e ↦ let clash : false ≡ true = sym false_is ∙ is ∙ ap not e in absurd cc
]

pub returns-then-ne : goal.returns-then-ne
returns-then-ne c =
    let mine = c.in-Some.ensures.label in
    let theirs = c.in-Some-next.ensures.label in
    (λ is. absurd cc, λ e. absurd (told_apart _ _ c.ne.result c.ne.ensures c.if-ne.true (same_front _ _ _ _ mine.1 theirs.1 (sym mine.0 ∙ c.labels.invariant.0 e ∙ theirs.0)).0))

pub labels-preserved : goal.labels-preserved
labels-preserved c =
    let mine = c.in-Some.ensures.label in
    let theirs = c.in-Some-next.ensures.label in
    let same = told_same c.in-Some.label.now c.in-Some-next.other.now c.ne.result c.ne.ensures c.if-ne.false in (
      λ e. (same_front _ _ _ _ mine.1 theirs.1 (sym mine.0 ∙ c.labels.invariant.0 e ∙ theirs.0)).1,
      λ e. c.labels.invariant.1 (mine.0 ∙ ap (λ (xs : List ℕ). xs ++ c.next.new.self) same ∙ ap (λ (xs : List ℕ). c.in-Some-next.other.now ++ xs) e ∙ sym theirs.0),
    )
