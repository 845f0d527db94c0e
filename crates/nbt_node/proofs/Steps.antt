-- Settling in steps.
use Rattle.std.proofs.Common.{◌≡◌, ℕ, ◌+◌, ◌≤◌, true, leb, List, [], ◌∷◌, map, Option, Some, None, refl, ap, ◌∙◌, arith, inl, inr, le-leb, lt-ltb, le-ltb, leb-true}
use Rattle.std.proofs.lemmas.Bool.{and_parts, and_from, cases_Bool}
use Rattle.std.proofs.lemmas.Bool.Decides.{leb_tells}
use Rattle.nbt_name.specs.Wire.{NameValue}
use Rattle.nbt_lease.specs.Drift.{quiet}
use Rattle.nbt_node.specs.declared.lookup.Lookup.{Lookup}
use Rattle.nbt_node.specs.declared.state.Slot.{Slot}
use Rattle.nbt_node.specs.declared.state.State.{State}
use Rattle.nbt_node.specs.declared.state.State.TheVariants.{Idle, Asking, Held, Releasing, Resting}
use Rattle.nbt_node.specs.declared.transaction.Transaction.{Transaction}
use Rattle.nbt_node.specs.Node.{NodeValue, slot_of, settled_slot, settled_lookup, settled_node}
use Rattle.nbt_node.specs.Transaction.{is_over}
use Rattle.nbt_node.specs.Settling.{rested, pending_at, settled}

module _ (life a b : ℕ) (later : a ≤ b) where
  settled-rested : (last : ℕ) → settled life b (rested life a last) ≡ rested life b last
  settled-rested last = elim (leb_tells a (last + quiet life)) [
    | inl rests ↦ rw (le-ltb (last + quiet life) a rests.1) refl
    | inr gone ↦ rw (lt-ltb (last + quiet life) a gone.1, lt-ltb (last + quiet life) b (omega (arith, gone.1))) refl
  ]

  over_later : (tries due : ℕ) → is_over a tries due ≡ true → is_over b tries due ≡ true
  over_later tries due over =
      let parts = and_parts (leb 3 tries) (leb due a) over in
      and_from (leb 3 tries) (leb due b) parts.0 (le-leb due b (omega (arith, leb-true due a parts.1)))

  pending_at-pending_at : (pending : Option Transaction) → pending_at b (pending_at a pending) ≡ pending_at b pending
  pending_at-pending_at None = refl
  pending_at-pending_at (Some r) = elim (cases_Bool (is_over a r.tries r.due)) [
    | inl over ↦ rw (over, over_later r.tries r.due over) refl
    | inr open_yet ↦ rw open_yet refl
  ]

  pub settled_twice : (state : State) → settled life b (settled life a state) ≡ settled life b state
  settled_twice Idle = refl
  settled_twice (Resting last) = settled-rested last
  settled_twice (Asking kind ttl last p) = elim (cases_Bool (is_over a p.tries p.due)) [
    | inl over ↦ rw (over, over_later p.tries p.due over) (settled-rested last)
    | inr open_yet ↦ rw open_yet refl
  ]
  settled_twice (Releasing kind last p) = elim (cases_Bool (is_over a p.tries p.due)) [
    | inl over ↦ rw (over, over_later p.tries p.due over) (settled-rested last)
    | inr open_yet ↦ rw open_yet refl
  ]
  settled_twice (Held kind ttl until renew last pending) = elim (leb_tells until a) [
    | inl over ↦ rw (over.0, le-leb until b (omega (arith, over.1))) (settled-rested last)
    | inr held ↦ rw (held.0, pending_at-pending_at pending) refl
  ]

  -- ---- a node

  slot_of_settled : (name : NameValue) (state : State) → settled_slot life b (slot_of name state) ≡ slot_of name (settled life b state)
  slot_of_settled name Idle = refl
  slot_of_settled name _ = refl

  slots_steps : (slots : List (Option Slot)) → map (settled_slot life b) (map (settled_slot life a) slots) ≡ map (settled_slot life b) slots
  slots_steps [] = refl
  slots_steps (None ∷ rest) = ap (λ (xs : List (Option Slot)). None ∷ xs) (slots_steps rest)
  slots_steps (Some slot ∷ rest) =
      let here : settled_slot life b (settled_slot life a (Some slot)) ≡ settled_slot life b (Some slot) = slot_of_settled slot.name (settled life a slot.state) ∙ ap (slot_of slot.name) (settled_twice slot.state) in
      let behind = slots_steps rest in
      λ i. here i ∷ behind i

  lookup_steps : (lookup : Option Lookup) → settled_lookup b (settled_lookup a lookup) ≡ settled_lookup b lookup
  lookup_steps None = refl
  lookup_steps (Some l) = elim (cases_Bool (is_over a l.tries l.due)) [
    | inl over ↦ rw (over, over_later l.tries l.due over) refl
    | inr open_yet ↦ rw open_yet refl
  ]

pub node_steps : (node : NodeValue) (a b : ℕ) → a ≤ b → settled_node (settled_node node a) b ≡ settled_node node b
node_steps node a b later =
    let lookups = lookup_steps node.config.life a b later node.lookup in
    let all = slots_steps node.config.life a b later node.slots in
    λ i. record node { last = b; lookup = lookups i; slots = all i }
