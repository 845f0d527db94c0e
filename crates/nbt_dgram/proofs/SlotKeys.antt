-- Slots by their keys: whether one stands there, and which stand where slots are emptied or one is set.
use Rattle.std.proofs.Common.{◌≡◌, ℕ, zero, suc, ◌<◌, Bool, true, false, cond, List, [], ◌∷◌, length, map, set, replicate, Option, Some, None, refl, sym, ap, subst, ◌∙◌, arith, inl, inr, eq-eqb}
use Rattle.std.specs.Prelude.{◌⊎◌, slice_get}
use Rattle.std.specs.List.{position, position_or_len}
use Rattle.std.proofs.lemmas.Bool.{and_parts, cases_lt, cases_eq, eqb-true, false_from_ne_true, lt-ltb}
use Rattle.std.proofs.lemmas.List.Sums.{fails_before_first}
use Rattle.std.proofs.lemmas.Option.{get_or_from_slice_get, same_Some, slice_get_within}
use Rattle.nbt_dgram.specs.declared.slot.Key.{Key}
use Rattle.nbt_dgram.specs.declared.slot.Slot.{Slot}
use Rattle.nbt_dgram.specs.Joiner.{is_of}

-- ---- keys

same_key : (a b : Key) → a.id ≡ b.id → a.source.ip ≡ b.source.ip → a.source.port ≡ b.source.port → a ≡ b
same_key a b id ip port = λ i. record { source = record { ip = ip i; port = port i }; id = id i }

pub key_or : (a b : Key) → (a ≡ b) ⊎ (a ≡ b → ⊥)
key_or a b =
    elim (cases_eq a.id b.id) [
      | inr other ↦ inr (λ e. other (ap (λ (k : Key). k.id) e))
      | inl id ↦ elim (cases_eq a.source.ip b.source.ip) [
        | inr other ↦ inr (λ e. other (ap (λ (k : Key). k.source.ip) e))
        | inl ip ↦ elim (cases_eq a.source.port b.source.port) [ inr other ↦ inr (λ e. other (ap (λ (k : Key). k.source.port) e)) | inl port ↦ inl (same_key a b id ip port) ]
      ]
    ]

pub of_is : (key : Key) (s : Slot) → is_of key (Some s) ≡ true → s.key ≡ key
of_is key s e =
    let id = and_parts _ _ e in
    let source = and_parts _ _ id.1 in
    same_key s.key key (eqb-true s.key.id key.id id.0) (eqb-true s.key.source.ip key.source.ip source.0) (eqb-true s.key.source.port key.source.port source.1)

pub is_of_own : (key : Key) (s : Slot) → s.key ≡ key → is_of key (Some s) ≡ true
is_of_own key s same = subst (λ (k : Key). is_of k (Some s) ≡ true) same (rw (eq-eqb s.key.id s.key.id refl, eq-eqb s.key.source.ip s.key.source.ip refl, eq-eqb s.key.source.port s.key.source.port refl) refl)

pub is_not_of : (key : Key) (s : Slot) → (s.key ≡ key → ⊥) → is_of key (Some s) ≡ false
is_not_of key s other = false_from_ne_true (is_of key (Some s)) (λ is. other (of_is key s is))

-- ---- whether a slot has a key

abbrev pub NoSlot : Key → List (Option Slot) → Type 0
NoSlot key slots = (place : ℕ) (s : Slot) → slice_get slots place ≡ Some (Some s) → s.key ≡ key → ⊥

abbrev pub SlotOf : Key → List (Option Slot) → Type 0
SlotOf key slots = (place : ℕ) × (s : Slot) × (slice_get slots place ≡ Some (Some s)) × (s.key ≡ key)

none_behind : (key : Key) (x : Option Slot) (xs : List (Option Slot)) → ((s : Slot) → x ≡ Some s → s.key ≡ key → ⊥) → NoSlot key xs → NoSlot key (x ∷ xs)
none_behind key x xs first rest zero s e same = first s (let is : ◌≡◌ {A = Option (Option Slot)} (Some x) (Some (Some s)) = e in cc) same
none_behind key x xs first rest (suc place) s e same = rest place s e same

pub slot_or_none : (key : Key) (slots : List (Option Slot)) → SlotOf key slots ⊎ NoSlot key slots
slot_or_none key [] = inr (λ place s e same. absurd cc)
slot_or_none key (None ∷ xs) = elim (slot_or_none key xs) [ inl found ↦ inl (suc found.0, found.1, found.2, found.3) | inr without ↦ inr (none_behind key None xs (λ s e same. absurd cc) without) ]
slot_or_none key (Some t ∷ xs) =
    elim (key_or t.key key) [
      | inl same ↦ inl (zero, t, refl, same)
      | inr other ↦ elim (slot_or_none key xs) [
        | inl found ↦ inl (suc found.0, found.1, found.2, found.3)
        | inr without ↦ inr (none_behind key (Some t) xs (λ s e same. other (let one : t ≡ s = cc in ap (λ (u : Slot). u.key) one ∙ same)) without)
      ]
    ]

pub no_position : {X : Type 0} (test : X → Bool) (xs : List X) → position test xs ≡ None → (place : ℕ) (x : X) → slice_get xs place ≡ Some x → test x ≡ false
no_position {X} test xs none place x there =
    elim (cases_lt (position_or_len test xs) (length xs)) [
      | inl less ↦ absurd (let e : Some (position_or_len test xs) ≡ None = rw (lt-ltb (position_or_len test xs) (length xs) less) at none in cc)
      | inr all ↦ subst (λ (y : X). test y ≡ false) (get_or_from_slice_get xs place x x there) (fails_before_first test xs place x (let within = slice_get_within xs place x there in omega (arith, within, all)))
    ]

pub no_slot : (key : Key) (slots : List (Option Slot)) → position (is_of key) slots ≡ None → NoSlot key slots
no_slot key slots none place s there same = let e : true ≡ false = sym (is_of_own key s same) ∙ no_position (is_of key) slots none place (Some s) there in cc

-- ---- slots that are emptied

left_by : (b : Bool) (slot : Option Slot) (s : Slot) → cond b None slot ≡ Some s → (slot ≡ Some s) × (b ≡ false)
left_by true slot s e = absurd cc
left_by false slot s e = (e, refl)

pub got_mapped : (test : Option Slot → Bool) (slots : List (Option Slot)) (place : ℕ) (s : Slot) → slice_get (map (λ slot. cond (test slot) None slot) slots) place ≡ Some (Some s) → (slice_get slots place ≡ Some (Some s)) × (test (Some s) ≡ false)
got_mapped test [] place s e = absurd cc
got_mapped test (x ∷ xs) zero s e =
    let is = left_by (test x) x s (let same : cond (test x) None x ≡ Some s = cc in same) in
    (ap (λ (slot : Option Slot). Some slot) is.0, sym (ap test is.0) ∙ is.1)
got_mapped test (x ∷ xs) (suc place) s e = got_mapped test xs place s e

pub map_got : (test : Option Slot → Bool) (slots : List (Option Slot)) (place : ℕ) (s : Slot) → slice_get slots place ≡ Some (Some s) → test (Some s) ≡ false → slice_get (map (λ slot. cond (test slot) None slot) slots) place ≡ Some (Some s)
map_got test [] place s e not = absurd cc
map_got test (x ∷ xs) zero s e not =
    let same : x ≡ Some s = (let is : ◌≡◌ {A = Option (Option Slot)} (Some x) (Some (Some s)) = e in cc) in
    ap (λ (slot : Option Slot). Some (cond (test slot) None slot)) same ∙ ap (λ (b : Bool). Some (cond b None (Some s))) not
map_got test (x ∷ xs) (suc place) s e not = map_got test xs place s e not

-- ---- a slot that is set

pub got_set : (slots : List (Option Slot)) (i : ℕ) (new : Slot) (place : ℕ) (s : Slot) → slice_get (set slots i (Some new)) place ≡ Some (Some s) → ((place ≡ i) × (new ≡ s)) ⊎ ((place ≡ i → ⊥) × (slice_get slots place ≡ Some (Some s)))
got_set [] i new place s e = absurd cc
got_set (x ∷ xs) zero new zero s e = inl (refl, (let same : ◌≡◌ {A = Option Slot} (Some new) (Some s) = cc in same_Some new s same))
got_set (x ∷ xs) zero new (suc place) s e = inr ((λ same. omega (arith, same)), e)
got_set (x ∷ xs) (suc i) new zero s e = inr ((λ same. omega (arith, same)), e)
got_set (x ∷ xs) (suc i) new (suc place) s e = elim (got_set xs i new place s e) [ inl is ↦ inl (ap suc is.0, is.1) | inr old ↦ inr ((λ same. old.0 (omega (arith, same))), old.1) ]

pub set_here : (slots : List (Option Slot)) (i : ℕ) (new : Slot) → i < length slots → slice_get (set slots i (Some new)) i ≡ Some (Some new)
set_here [] i new less = absurd (omega (arith, less))
set_here (x ∷ xs) zero new less = refl
set_here (x ∷ xs) (suc i) new less = set_here xs i new (omega (arith, less))

pub set_elsewhere : (slots : List (Option Slot)) (i : ℕ) (new : Slot) (place : ℕ) (s : Slot) → (place ≡ i → ⊥) → slice_get slots place ≡ Some (Some s) → slice_get (set slots i (Some new)) place ≡ Some (Some s)
set_elsewhere [] i new place s other e = e
set_elsewhere (x ∷ xs) zero new zero s other e = absurd (other refl)
set_elsewhere (x ∷ xs) zero new (suc place) s other e = e
set_elsewhere (x ∷ xs) (suc i) new zero s other e = e
set_elsewhere (x ∷ xs) (suc i) new (suc place) s other e = set_elsewhere xs i new place s (λ same. other (ap suc same)) e

-- ---- free slots

pub none_in_free : (count place : ℕ) (s : Slot) → slice_get (replicate {A = Option Slot} count None) place ≡ Some (Some s) → ⊥
none_in_free zero place s e = cc
none_in_free (suc count) zero s e = cc
none_in_free (suc count) (suc place) s e = none_in_free count place s e
