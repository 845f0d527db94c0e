-- Where a name's slot is, or the lowest free one, and what a state that is put there changes.
use Rattle.std.proofs.Common.{◌≡◌, ℕ, zero, suc, ◌<◌, true, false, Bool, List, [], ◌∷◌, length, get_or, set, Option, Some, None, refl, sym, ap, ◌∙◌, arith, inl, inr}
use Rattle.std.specs.Prelude.{is_none}
use Rattle.std.specs.List.{position, position_or_len}
use Rattle.std.proofs.lemmas.Bool.{cases_lt, lt-ltb, or_from}
use Rattle.std.proofs.lemmas.List.Quantifiers.{position-Some}
use Rattle.std.proofs.lemmas.List.Sums.{fails_before_first}
use Rattle.nbt_name.proofs.Same.{same_name-true}
use Rattle.nbt_name.specs.Wire.{NameValue, same_name}
use Rattle.nbt_node.specs.declared.state.State.{State}
use Rattle.nbt_node.specs.declared.state.Slot.{Slot}
use Rattle.nbt_node.specs.Node.{is_named, is_in, slot_of, put, take_slot, with_state}

-- where nothing passes a test, it fails at each place
fails_everywhere : (test : Option Slot → Bool) (xs : List (Option Slot)) → position test xs ≡ None → (k : ℕ) → k < length xs → test (get_or xs k None) ≡ false
fails_everywhere test xs none k within =
    elim (cases_lt (position_or_len test xs) (length xs)) [
      | inl less ↦ absurd (let e : Some (position_or_len test xs) ≡ None = rw (lt-ltb (position_or_len test xs) (length xs) less) at none in cc)
      | inr all ↦ fails_before_first test xs k None (omega (arith, within, all))
    ]

module _ (name : NameValue) (state : State) where
  put_at : (xs : List (Option Slot)) (i : ℕ) → i < length xs → is_named (get_or xs i None) name ≡ true → ((k : ℕ) → k < i → is_named (get_or xs k None) name ≡ false)
      → (is_in xs name ≡ true) × (put xs name state ≡ set xs i (slot_of name state))
  put_at [] i within here before = absurd (omega arith)
  put_at (None ∷ rest) zero within here before = absurd cc
  put_at (None ∷ rest) (suc i) within here before =
      let behind = put_at rest i (omega arith) here (λ k less. before (suc k) (omega arith)) in
      (behind.0, ap (λ (ys : List (Option Slot)). None ∷ ys) behind.1)
  put_at (Some s ∷ rest) zero within here before = rw here (refl, refl)
  put_at (Some s ∷ rest) (suc i) within here before =
      let behind = put_at rest i (omega arith) here (λ k less. before (suc k) (omega arith)) in
      rw (before 0 (omega arith)) (behind.0, ap (λ (ys : List (Option Slot)). Some s ∷ ys) behind.1)

  take_at : (xs : List (Option Slot)) (i : ℕ) → i < length xs → is_none (get_or xs i None) ≡ true → ((k : ℕ) → k < i → is_none (get_or xs k None) ≡ false) → take_slot xs name state ≡ set xs i (slot_of name state)
  take_at [] i within here before = absurd (omega arith)
  take_at (None ∷ rest) zero within here before = refl
  take_at (None ∷ rest) (suc i) within here before = absurd (let e : true ≡ false = before 0 (omega arith) in cc)
  take_at (Some s ∷ rest) zero within here before = absurd cc
  take_at (Some s ∷ rest) (suc i) within here before = ap (λ (ys : List (Option Slot)). Some s ∷ ys) (take_at rest i (omega arith) here (λ k less. before (suc k) (omega arith)))

  not_in : (xs : List (Option Slot)) → ((k : ℕ) → k < length xs → is_named (get_or xs k None) name ≡ false) → is_in xs name ≡ false
  not_in [] each = refl
  not_in (None ∷ rest) each = not_in rest (λ k within. each (suc k) (omega arith))
  not_in (Some s ∷ rest) each = or_from (same_name s.name name) (is_in rest name) (each 0 (omega arith)) (not_in rest (λ k within. each (suc k) (omega arith)))

  no_room : (xs : List (Option Slot)) → ((k : ℕ) → k < length xs → is_none (get_or xs k None) ≡ false) → take_slot xs name state ≡ xs
  no_room [] each = refl
  no_room (None ∷ rest) each = absurd (let e : true ≡ false = each 0 (omega arith) in cc)
  no_room (Some s ∷ rest) each = ap (λ (ys : List (Option Slot)). Some s ∷ ys) (no_room rest (λ k within. each (suc k) (omega arith)))

pub own_changed : (xs : List (Option Slot)) (name : NameValue) (state : State) (i : ℕ) → position (λ slot. is_named slot name) xs ≡ Some i → set xs i (slot_of name state) ≡ with_state xs name state
own_changed xs name state i found =
    let at = position-Some (λ (slot : Option Slot). is_named slot name) xs i None found in
    let is = put_at name state xs i at.0 at.1 at.2 in
    rw is.0 (sym is.1)

-- the state alone changes where the slot is there
pub own_set : (xs : List (Option Slot)) (name : NameValue) (state : State) (i : ℕ) (d after : Option Slot) → position (λ slot. is_named slot name) xs ≡ Some i
    → ((kept : Slot) → get_or xs i d ≡ Some kept → after ≡ slot_of kept.name state) → set xs i after ≡ with_state xs name state
own_set xs name state i d after found each =
    let at = position-Some (λ (slot : Option Slot). is_named slot name) xs i d found in
    rw (of_kept (get_or xs i d) at.1 each) (own_changed xs name state i found)
  where
    of_kept : (slot : Option Slot) → is_named slot name ≡ true → ((kept : Slot) → slot ≡ Some kept → after ≡ slot_of kept.name state) → after ≡ slot_of name state
    of_kept None is each = absurd cc
    of_kept (Some kept) is each = each kept refl ∙ ap (λ (n : NameValue). slot_of n state) (same_name-true kept.name name is)

pub free_changed : (xs : List (Option Slot)) (name : NameValue) (state : State) (i : ℕ) → position (λ slot. is_named slot name) xs ≡ None → position is_none xs ≡ Some i → set xs i (slot_of name state) ≡ with_state xs name state
free_changed xs name state i none found =
    let at = position-Some is_none xs i None found in
    rw (not_in name state xs (fails_everywhere (λ (slot : Option Slot). is_named slot name) xs none)) (sym (take_at name state xs i at.0 at.1 at.2))

pub none_changed : (xs : List (Option Slot)) (name : NameValue) (state : State) → position (λ slot. is_named slot name) xs ≡ None → position is_none xs ≡ None → xs ≡ with_state xs name state
none_changed xs name state none full =
    rw (not_in name state xs (fails_everywhere (λ (slot : Option Slot). is_named slot name) xs none)) (sym (no_room name state xs (fails_everywhere is_none xs full)))
