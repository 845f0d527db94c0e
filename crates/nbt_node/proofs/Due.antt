-- The first slot that has something due.
use Rattle.std.proofs.Common.{◌≡◌, ℕ, Bool, true, false, List, [], ◌∷◌, Option, Some, None, refl, sym, ap, subst, ◌∙◌, inl, inr}
use Rattle.std.specs.Prelude.{is_some, IfSome}
use Rattle.std.proofs.lemmas.Bool.{true≢false, false≢true}
use Rattle.nbt_name.specs.Wire.{NameValue}
use Rattle.nbt_node.specs.declared.polling.Sending.{Sending}
use Rattle.nbt_node.specs.declared.state.State.{State}
use Rattle.nbt_node.specs.declared.state.Slot.{Slot}
use Rattle.nbt_node.specs.Settling.{settled}
use Rattle.nbt_node.specs.Node.{is_in, AreDistinct, state_in, slot_of}
use Rattle.nbt_node.specs.Moves.{is_due}
use Rattle.nbt_node.specs.Calls.{first_due}
use Rattle.nbt_node.specs.Inner.Sending.{IsSending}
use Rattle.nbt_name.proofs.Same.{same_name-same, name_tells}
use Rattle.nbt_node.proofs.Known.{slot_tells}

module _ (life now id : ℕ) where
  first_here : (name : NameValue) (state : State) → is_due life now state ≡ true → (rest : List (Option Slot)) → first_due life now (slot_of name state ∷ rest) ≡ Some (record { name = name; state = state })
  first_here name state due rest = elim (slot_tells name state) [
    | inl idle ↦ absurd (true≢false (sym due ∙ ap (is_due life now) idle.0))
    | inr kept ↦ rw (kept.1, due) refl
  ]

  pub due_slot : (kept : Slot) (state : State) (sending : Option Sending) → state ≡ settled life now kept.state → is_some sending ≡ is_due life now state
      → IfSome sending (λ s. IsSending life now id kept.name state s)
      → IfSome sending (λ s. (x : Slot) × ((rest : List (Option Slot)) → first_due life now (slot_of kept.name (settled life now kept.state) ∷ rest) ≡ Some x) × IsSending life now id x.name x.state s)
  due_slot kept state None is due sends = tt
  due_slot kept state (Some s) is due sends =
      (record { name = kept.name; state = state }, λ rest. rw (← is) (first_here kept.name state (sym due) rest), sends)

-- a name that is due is known in its state
pub known_due : (life now : ℕ) (xs : List (Option Slot)) (slot : Slot) → AreDistinct xs → first_due life now xs ≡ Some slot → (state_in xs slot.name ≡ slot.state) × (is_in xs slot.name ≡ true)
known_due life now [] slot apart first = absurd cc
known_due life now (None ∷ rest) slot apart first = known_due life now rest slot apart first
known_due life now (Some s ∷ rest) slot apart first = go (is_due life now s.state) refl (known_due life now rest slot apart.1)
  where
    go : (b : Bool) → is_due life now s.state ≡ b → (first_due life now rest ≡ Some slot → (state_in rest slot.name ≡ slot.state) × (is_in rest slot.name ≡ true))
        → (state_in (Some s ∷ rest) slot.name ≡ slot.state) × (is_in (Some s ∷ rest) slot.name ≡ true)
    go true due behind =
        let is : s ≡ slot = cc (rw due at first) in
        subst (λ (x : Slot). (state_in (Some s ∷ rest) x.name ≡ x.state) × (is_in (Some s ∷ rest) x.name ≡ true)) is (rw (same_name-same s.name) (refl, refl))
    go false due behind =
        let found = behind (rw due at first) in
        elim (name_tells s.name slot.name) [
          | inl same ↦ absurd (false≢true (sym apart.0 ∙ ap (λ (n : NameValue). is_in rest n) same.1 ∙ found.1))
          | inr other ↦ rw other.0 found
        ]
