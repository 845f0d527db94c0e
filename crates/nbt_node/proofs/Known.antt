-- What is known of each name after a change of the slots.
use Rattle.std.proofs.Common.{◌≡◌, ◌≢◌, ℕ, zero, ◌<◌, true, false, cond, List, [], ◌∷◌, length, map, suc, get_or, Option, Some, None, refl, sym, ap, subst, ◌∙◌, arith, inl, inr}
use Rattle.std.specs.Prelude.{◌⊎◌, ◌||◌, replicate}
use Rattle.std.proofs.lemmas.Bool.{cond_both, or_parts, or_from, false≢true}
use Rattle.std.proofs.lemmas.List.{ext_get_or, get_or-replicate, length-replicate}
use Rattle.nbt_name.specs.Wire.{NameValue, same_name}
use Rattle.nbt_name.proofs.Same.{same_name-same, same_name-other, name_tells}
use Rattle.nbt_node.specs.declared.state.State.{State}
use Rattle.nbt_node.specs.declared.state.State.TheVariants.{Idle}
use Rattle.nbt_node.specs.declared.state.Slot.{Slot}
use Rattle.nbt_node.specs.Settling.{settled}
use Rattle.nbt_node.specs.Node.{is_named, is_in, has_room, AreDistinct, state_in, slot_of, put, take_slot, with_state, settled_slot}

-- ---- slots

pub slot_tells : (n : NameValue) (state : State) → ((state ≡ Idle) × (slot_of n state ≡ None)) ⊎ ((state ≢ Idle) × (slot_of n state ≡ Some (record { name = n; state = state })))
slot_tells n Idle = inl (refl, refl)
slot_tells n _ = inr (λ e. cc, refl)

-- a slot of another name, or of one that is Idle, tells nothing of a name
skips : (slot : Option Slot) (rest : List (Option Slot)) (q : NameValue) → is_named slot q ≡ false → state_in (slot ∷ rest) q ≡ state_in rest q
skips None rest q other = refl
skips (Some s) rest q other = rw other refl

not_in_step : (slot : Option Slot) (rest : List (Option Slot)) (q : NameValue) → is_named slot q ≡ false → is_in rest q ≡ false → is_in (slot ∷ rest) q ≡ false
not_in_step None rest q other out = out
not_in_step (Some s) rest q other out = or_from (same_name s.name q) (is_in rest q) other out

slot_of-other : (n : NameValue) (state : State) (q : NameValue) → same_name n q ≡ false → is_named (slot_of n state) q ≡ false
slot_of-other n state q other = elim (slot_tells n state) [ inl idle ↦ rw idle.1 refl | inr kept ↦ rw kept.1 other ]

pub absent : (xs : List (Option Slot)) (q : NameValue) → is_in xs q ≡ false → state_in xs q ≡ Idle
absent [] q out = refl
absent (None ∷ rest) q out = absent rest q out
absent (Some s ∷ rest) q out = let parts = or_parts (same_name s.name q) (is_in rest q) out in rw parts.0 (absent rest q parts.1)

-- a slot before slots that don't have its name
distinct_step : (n : NameValue) (state : State) (rest : List (Option Slot)) → is_in rest n ≡ false → AreDistinct rest → AreDistinct (slot_of n state ∷ rest)
distinct_step n Idle rest out apart = apart
distinct_step n _ rest out apart = (out, apart)

-- ---- time

module _ (life now : ℕ) where
  is_in-settled : (xs : List (Option Slot)) (q : NameValue) → is_in xs q ≡ false → is_in (map (settled_slot life now) xs) q ≡ false
  is_in-settled [] q out = refl
  is_in-settled (None ∷ rest) q out = is_in-settled rest q out
  is_in-settled (Some s ∷ rest) q out =
      let parts = or_parts (same_name s.name q) (is_in rest q) out in
      not_in_step (slot_of s.name (settled life now s.state)) (map (settled_slot life now) rest) q (slot_of-other s.name (settled life now s.state) q parts.0) (is_in-settled rest q parts.1)

  pub distinct-settled : (xs : List (Option Slot)) → AreDistinct xs → AreDistinct (map (settled_slot life now) xs)
  distinct-settled [] apart = tt
  distinct-settled (None ∷ rest) apart = distinct-settled rest apart
  distinct-settled (Some s ∷ rest) apart = distinct_step s.name (settled life now s.state) (map (settled_slot life now) rest) (is_in-settled rest s.name apart.0) (distinct-settled rest apart.1)

  -- each name is settled by itself
  pub state_in-settled : (xs : List (Option Slot)) (q : NameValue) → AreDistinct xs → state_in (map (settled_slot life now) xs) q ≡ settled life now (state_in xs q)
  state_in-settled [] q apart = refl
  state_in-settled (None ∷ rest) q apart = state_in-settled rest q apart
  state_in-settled (Some s ∷ rest) q apart =
      elim (name_tells s.name q) [
        | inr other ↦
            skips (slot_of s.name (settled life now s.state)) (map (settled_slot life now) rest) q (slot_of-other s.name (settled life now s.state) q other.0)
            ∙ state_in-settled rest q apart.1
            ∙ rw other.0 refl
        | inl same ↦ here (settled life now s.state) same.0 same.1 refl
      ]
    where
      gone : s.name ≡ q → state_in (map (settled_slot life now) rest) q ≡ Idle
      gone same = absent (map (settled_slot life now) rest) q (subst (λ (n : NameValue). is_in (map (settled_slot life now) rest) n ≡ false) same (is_in-settled rest s.name apart.0))

      here : (state : State) → same_name s.name q ≡ true → s.name ≡ q → settled life now s.state ≡ state
          → state_in (slot_of s.name state ∷ map (settled_slot life now) rest) q ≡ settled life now (cond (same_name s.name q) s.state (state_in rest q))
      here state yes_is same is =
          elim (slot_tells s.name state) [
            | inl idle ↦ rw (idle.1, yes_is, is, idle.0) (gone same)
            | inr kept ↦ rw (kept.1, yes_is) (sym is)
          ]

  -- a name that is Idle once settled has no slot then
  pub idle_is_out : (xs : List (Option Slot)) (q : NameValue) → state_in (map (settled_slot life now) xs) q ≡ Idle → is_in (map (settled_slot life now) xs) q ≡ false
  idle_is_out [] q idle = refl
  idle_is_out (None ∷ rest) q idle = idle_is_out rest q idle
  idle_is_out (Some s ∷ rest) q idle = go (settled life now s.state) (idle_is_out rest q) idle
    where
      taken : (state : State) → (state_in (map (settled_slot life now) rest) q ≡ Idle → is_in (map (settled_slot life now) rest) q ≡ false)
          → state ≢ Idle → cond (same_name s.name q) state (state_in (map (settled_slot life now) rest) q) ≡ Idle → (same_name s.name q || is_in (map (settled_slot life now) rest) q) ≡ false
      taken state behind kept e = elim (name_tells s.name q) [
        | inl same ↦ absurd (kept (rw same.0 at e))
        | inr other ↦ rw other.0 (behind (rw other.0 at e))
      ]

      go : (state : State) → (state_in (map (settled_slot life now) rest) q ≡ Idle → is_in (map (settled_slot life now) rest) q ≡ false)
          → state_in (slot_of s.name state ∷ map (settled_slot life now) rest) q ≡ Idle → is_in (slot_of s.name state ∷ map (settled_slot life now) rest) q ≡ false
      go state behind e = elim (slot_tells s.name state) [
        | inl free ↦ rw free.1 (behind (rw free.1 at e))
        | inr kept ↦ rw kept.1 (taken state behind kept.0 (rw kept.1 at e))
      ]

-- ---- a state put into a slot

-- what a slot with a state tells of its name
own_slot : (n : NameValue) (state : State) (rest : List (Option Slot)) → is_in rest n ≡ false → state_in (slot_of n state ∷ rest) n ≡ state
own_slot n state rest out =
    elim (slot_tells n state) [
      | inl free ↦ rw free.1 (absent rest n out ∙ sym free.0)
      | inr kept ↦ rw (kept.1, same_name-same n) refl
    ]

pub put-other : (xs : List (Option Slot)) (name : NameValue) (state : State) (q : NameValue) → q ≢ name → state_in (put xs name state) q ≡ state_in xs q
put-other [] name state q ne = refl
put-other (None ∷ rest) name state q ne = put-other rest name state q ne
put-other (Some s ∷ rest) name state q ne = elim (name_tells s.name name) [
  | inl same ↦
      rw same.0
      (skips (slot_of name state) rest q (slot_of-other name state q (same_name-other name q (λ e. ne (sym e))))
      ∙ sym (skips (Some s) rest q (same_name-other s.name q (λ e. ne (sym e ∙ same.1)))))
  | inr other ↦ rw other.0 (ap (λ (t : State). cond (same_name s.name q) s.state t) (put-other rest name state q ne))
]

pub put-same : (xs : List (Option Slot)) (name : NameValue) (state : State) → AreDistinct xs → is_in xs name ≡ true → state_in (put xs name state) name ≡ state
put-same [] name state apart there = absurd cc
put-same (None ∷ rest) name state apart there = put-same rest name state apart there
put-same (Some s ∷ rest) name state apart there = elim (name_tells s.name name) [
  | inl same ↦ rw same.0 (own_slot name state rest (subst (λ (n : NameValue). is_in rest n ≡ false) same.1 apart.0))
  | inr other ↦ rw (other.0, other.0) (put-same rest name state apart.1 (rw other.0 at there))
]

is_in-put : (xs : List (Option Slot)) (name : NameValue) (state : State) (q : NameValue) → is_in xs q ≡ false → is_in (put xs name state) q ≡ false
is_in-put [] name state q out = refl
is_in-put (None ∷ rest) name state q out = is_in-put rest name state q out
is_in-put (Some s ∷ rest) name state q out =
    let parts = or_parts (same_name s.name q) (is_in rest q) out in
    elim (name_tells s.name name) [
      | inl same ↦ rw same.0 (not_in_step (slot_of name state) rest q (slot_of-other name state q (subst (λ (n : NameValue). same_name n q ≡ false) same.1 parts.0)) parts.1)
      | inr other ↦ rw other.0 (or_from (same_name s.name q) (is_in (put rest name state) q) parts.0 (is_in-put rest name state q parts.1))
    ]

pub distinct-put : (xs : List (Option Slot)) (name : NameValue) (state : State) → AreDistinct xs → AreDistinct (put xs name state)
distinct-put [] name state apart = tt
distinct-put (None ∷ rest) name state apart = distinct-put rest name state apart
distinct-put (Some s ∷ rest) name state apart = elim (name_tells s.name name) [
  | inl same ↦ rw same.0 (distinct_step name state rest (subst (λ (n : NameValue). is_in rest n ≡ false) same.1 apart.0) apart.1)
  | inr other ↦ rw other.0 (is_in-put rest name state s.name apart.0, distinct-put rest name state apart.1)
]

-- ---- a name put into a free slot

pub take-other : (xs : List (Option Slot)) (name : NameValue) (state : State) (q : NameValue) → q ≢ name → state_in (take_slot xs name state) q ≡ state_in xs q
take-other [] name state q ne = refl
take-other (None ∷ rest) name state q ne = skips (slot_of name state) rest q (slot_of-other name state q (same_name-other name q (λ e. ne (sym e))))
take-other (Some s ∷ rest) name state q ne = ap (λ (t : State). cond (same_name s.name q) s.state t) (take-other rest name state q ne)

pub take-same : (xs : List (Option Slot)) (name : NameValue) (state : State) → is_in xs name ≡ false → has_room xs ≡ true → state_in (take_slot xs name state) name ≡ state
take-same [] name state out room = absurd cc
take-same (None ∷ rest) name state out room = own_slot name state rest out
take-same (Some s ∷ rest) name state out room =
    let parts = or_parts (same_name s.name name) (is_in rest name) out in
    rw parts.0 (take-same rest name state parts.1 room)

is_in-take : (xs : List (Option Slot)) (name : NameValue) (state : State) (q : NameValue) → q ≢ name → is_in xs q ≡ false → is_in (take_slot xs name state) q ≡ false
is_in-take [] name state q ne out = refl
is_in-take (None ∷ rest) name state q ne out = not_in_step (slot_of name state) rest q (slot_of-other name state q (same_name-other name q (λ e. ne (sym e)))) out
is_in-take (Some s ∷ rest) name state q ne out =
    let parts = or_parts (same_name s.name q) (is_in rest q) out in
    or_from (same_name s.name q) (is_in (take_slot rest name state) q) parts.0 (is_in-take rest name state q ne parts.1)

pub distinct-take : (xs : List (Option Slot)) (name : NameValue) (state : State) → is_in xs name ≡ false → AreDistinct xs → AreDistinct (take_slot xs name state)
distinct-take [] name state out apart = tt
distinct-take (None ∷ rest) name state out apart = distinct_step name state rest out apart
distinct-take (Some s ∷ rest) name state out apart =
    let parts = or_parts (same_name s.name name) (is_in rest name) out in
    let ne : s.name ≢ name = λ e. false≢true (sym parts.0 ∙ ap (λ (n : NameValue). same_name s.name n) (sym e) ∙ same_name-same s.name) in
    (is_in-take rest name state s.name ne apart.0, distinct-take rest name state parts.1 apart.1)

-- Idle, put into a free slot, changes nothing
pub take-idle : (xs : List (Option Slot)) (name : NameValue) → take_slot xs name Idle ≡ xs
take-idle [] name = refl
take-idle (None ∷ rest) name = refl
take-idle (Some s ∷ rest) name = ap (λ (ys : List (Option Slot)). Some s ∷ ys) (take-idle rest name)

-- ---- counts

pub length-put : (xs : List (Option Slot)) (name : NameValue) (state : State) → length (put xs name state) ≡ length xs
length-put [] name state = refl
length-put (None ∷ rest) name state = ap suc (length-put rest name state)
length-put (Some s ∷ rest) name state = elim (name_tells s.name name) [
  | inl same ↦ rw same.0 refl
  | inr other ↦ rw other.0 (ap suc (length-put rest name state))
]

pub length-take_slot : (xs : List (Option Slot)) (name : NameValue) (state : State) → length (take_slot xs name state) ≡ length xs
length-take_slot [] name state = refl
length-take_slot (None ∷ rest) name state = refl
length-take_slot (Some s ∷ rest) name state = ap suc (length-take_slot rest name state)

-- ---- the slots once a name has another state

pub distinct-with_state : (xs : List (Option Slot)) (name : NameValue) (state : State) → AreDistinct xs → AreDistinct (with_state xs name state)
distinct-with_state xs name state apart = cond_both (is_in xs name) (put xs name state) (take_slot xs name state) AreDistinct (λ e. distinct-put xs name state apart) (λ e. distinct-take xs name state e apart)

pub length-with_state : (xs : List (Option Slot)) (name : NameValue) (state : State) → length (with_state xs name state) ≡ length xs
length-with_state xs name state = cond_both (is_in xs name) (put xs name state) (take_slot xs name state) (λ ys. length ys ≡ length xs) (λ e. length-put xs name state) (λ e. length-take_slot xs name state)

pub with_state-other : (xs : List (Option Slot)) (name : NameValue) (state : State) (q : NameValue) → q ≢ name → state_in (with_state xs name state) q ≡ state_in xs q
with_state-other xs name state q ne =
    cond_both (is_in xs name) (put xs name state) (take_slot xs name state) (λ ys. state_in ys q ≡ state_in xs q) (λ e. put-other xs name state q ne) (λ e. take-other xs name state q ne)

-- the name has a slot, or there is room for one, or it needs none
pub with_state-same : (xs : List (Option Slot)) (name : NameValue) (state : State) → AreDistinct xs → (is_in xs name ≡ false → (has_room xs ≡ true) ⊎ (state ≡ Idle)) → state_in (with_state xs name state) name ≡ state
with_state-same xs name state apart room =
    cond_both (is_in xs name) (put xs name state) (take_slot xs name state) (λ ys. state_in ys name ≡ state) (λ e. put-same xs name state apart e) (λ e. free e (room e))
  where
    free : is_in xs name ≡ false → (has_room xs ≡ true) ⊎ (state ≡ Idle) → state_in (take_slot xs name state) name ≡ state
    free out (inl some) = take-same xs name state out some
    free out (inr idle) = rw idle (ap (λ (ys : List (Option Slot)). state_in ys name) (take-idle xs name) ∙ absent xs name out)

-- ---- slots that are all free

pub all_free : (xs : List (Option Slot)) (n : ℕ) → length xs ≡ n → ((i : ℕ) → i < n → get_or xs i None ≡ None) → xs ≡ replicate n None
all_free xs n count each =
    ext_get_or None xs (replicate n None) (count ∙ sym (length-replicate {A = Option Slot} n None))
    (λ i within. each i (omega (arith, count, within)) ∙ sym (get_or-replicate {A = Option Slot} n i None None (omega (arith, count, within))))

distinct-free : (n : ℕ) → AreDistinct (replicate n None)
distinct-free zero = tt
distinct-free (suc n) = distinct-free n

pub distinct-none : (xs : List (Option Slot)) (n : ℕ) → xs ≡ replicate n None → AreDistinct xs
distinct-none xs n is = subst AreDistinct (sym is) (distinct-free n)
