-- The first element of a list that passes a test: where it stands, and what a removal or a write there makes of the list.
use Rattle.std.proofs.Common.{◌≡◌, ℕ, zero, suc, ◌<◌, true, false, Bool, List, [], ◌∷◌, length, get_or, set, Some, None, refl, sym, ap, ◌∙◌, arith, inl, inr}
use Rattle.std.specs.List.{find, position, position_or_len, remove}
use Rattle.std.proofs.lemmas.Bool.{cases_lt, lt-ltb}
use Rattle.std.proofs.lemmas.List.Quantifiers.{position-Some}
use Rattle.std.proofs.lemmas.List.Sums.{fails_before_first}
use Rattle.nbt_confirm.specs.Firsts.{with_first, without_first}

module _ {X : Type 0} (test : X → Bool) where
  -- what stands at a place, where nothing before it passes
  at_first : (xs : List X) (i : ℕ) (d : X) → i < length xs → test (get_or xs i d) ≡ true → ((k : ℕ) → k < i → test (get_or xs k d) ≡ false)
      → (find test xs ≡ Some (get_or xs i d)) × (without_first test xs ≡ remove xs i) × ((change : X → X) → with_first test change xs ≡ set xs i (change (get_or xs i d)))
  at_first [] i d within here before = absurd (omega arith)
  at_first (x ∷ xs) zero d within here before = rw here (refl, refl, λ change. refl)
  at_first (x ∷ xs) (suc i) d within here before =
      let behind = at_first xs i d (omega arith) here (λ k less. before (suc k) (omega arith)) in
      rw (before 0 (omega arith)) (behind.0, ap (λ (ys : List X). x ∷ ys) behind.1, λ change. ap (λ (ys : List X). x ∷ ys) (behind.2 change))

  nowhere : (xs : List X) (d : X) → ((k : ℕ) → k < length xs → test (get_or xs k d) ≡ false)
      → (find test xs ≡ None) × (without_first test xs ≡ xs) × ((change : X → X) → with_first test change xs ≡ xs)
  nowhere [] d each = (refl, refl, λ change. refl)
  nowhere (x ∷ xs) d each =
      let behind = nowhere xs d (λ k within. each (suc k) (omega arith)) in
      rw (each 0 (omega arith)) (behind.0, ap (λ (ys : List X). x ∷ ys) behind.1, λ change. ap (λ (ys : List X). x ∷ ys) (behind.2 change))

  -- what a removal there takes and leaves
  pub taken_is : (xs : List X) (i : ℕ) (x : X) → position test xs ≡ Some i → x ≡ get_or xs i x → Some x ≡ find test xs
  taken_is xs i x found is =
      let at = position-Some test xs i x found in
      ap Some is ∙ sym (at_first xs i x at.0 at.1 at.2).0

  pub taken_leaves : (xs : List X) (i : ℕ) (x : X) → position test xs ≡ Some i → remove xs i ≡ without_first test xs
  taken_leaves xs i x found =
      let at = position-Some test xs i x found in
      sym (at_first xs i x at.0 at.1 at.2).1

  -- a write there
  pub set_is : (change : X → X) (xs : List X) (i : ℕ) (x : X) → position test xs ≡ Some i → x ≡ get_or xs i x → set xs i (change x) ≡ with_first test change xs
  set_is change xs i x found is =
      let at = position-Some test xs i x found in
      ap (λ (y : X). set xs i (change y)) is ∙ sym ((at_first xs i x at.0 at.1 at.2).2 change)

  fails_everywhere : (xs : List X) (d : X) → position test xs ≡ None → (k : ℕ) → k < length xs → test (get_or xs k d) ≡ false
  fails_everywhere xs d none k within =
      elim (cases_lt (position_or_len test xs) (length xs)) [
        | inl less ↦ absurd (let e : Some (position_or_len test xs) ≡ None = rw (lt-ltb (position_or_len test xs) (length xs) less) at none in cc)
        | inr all ↦ fails_before_first test xs k d (omega (arith, within, all))
      ]

  -- where none passes
  pub none_is : (xs : List X) → position test xs ≡ None → find test xs ≡ None
  none_is [] none = refl
  none_is (x ∷ xs) none = (nowhere (x ∷ xs) x (fails_everywhere (x ∷ xs) x none)).0

  pub none_leaves : (xs : List X) → position test xs ≡ None → without_first test xs ≡ xs
  none_leaves [] none = refl
  none_leaves (x ∷ xs) none = (nowhere (x ∷ xs) x (fails_everywhere (x ∷ xs) x none)).1

  pub none_set : (change : X → X) (xs : List X) → position test xs ≡ None → with_first test change xs ≡ xs
  none_set change [] none = refl
  none_set change (x ∷ xs) none = (nowhere (x ∷ xs) x (fails_everywhere (x ∷ xs) x none)).2 change
