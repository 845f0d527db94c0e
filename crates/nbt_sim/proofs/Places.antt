-- The addresses of a world's ends, one after the other, and numbers for them.
use Rattle.std.proofs.Common.{◌≡◌, ◌∙◌, ℕ, ◌+◌, ◌<◌, ◌≤◌, List, ◌++◌, length, take, drop, Some, refl, ap, arith, inl, inr, length-take, get_or-take}
use Rattle.std.specs.Prelude.{◌↔◌, slice_get, slice_set, replicate}
use Rattle.std.proofs.lemmas.Bool.{cases_lt}
use Rattle.std.proofs.lemmas.Option.{slice_get-get_or, get_or_from_slice_get}
use Rattle.std.proofs.lemmas.List.{get_or-set_same, get_or-set_other, length-set, drop-replicate}
use Rattle.nbt_name.specs.declared.addr.Addr.{Addr}
use Rattle.nbt_sim.specs.Script.{place, ArePlaces, entries}

abbrev nowhere : Addr
nowhere = record { ip = 0; port = 0 }

pub one_place_more : (items : List Addr) (i ip k : ℕ) → i < length items → ip ≡ 2130706433 + i → ((j : ℕ) → j < i → slice_get items j ≡ Some (place j)) → k < i + 1 → slice_get (slice_set items i (record { ip = ip; port = 137 })) k ≡ Some (place k)
one_place_more items i ip k within next before h =
    let long : length (slice_set items i (record { ip = ip; port = 137 })) ≡ length items = length-set items i (record { ip = ip; port = 137 }) in
    slice_get-get_or _ k nowhere (omega (arith, long)) ∙ ap Some (elim (cases_lt k i) [
      | inl less ↦ get_or-set_other items i k (record { ip = ip; port = 137 }) nowhere (λ e. omega arith) ∙ get_or_from_slice_get items k (place k) nowhere (before k less)
      | inr more ↦ let same : k ≡ i = omega arith in
          rw same (get_or-set_same items i (record { ip = ip; port = 137 }) nowhere within ∙ ap (λ (x : ℕ). record { ip = x; port = 137 }) next)
    ])

-- the first of them
pub few_places : (items : List Addr) (nodes : ℕ) → ArePlaces items 8 → nodes ≤ 8 → ArePlaces (take (nodes + 1) items) nodes
few_places items nodes all few =
    let nine = all.count in
    let long : length (take (nodes + 1) items) ≡ nodes + 1 = simp length-take (omega arith) in
    record {
      count = long;
      places = λ k h. slice_get-get_or _ k nowhere (omega (arith, long)) ∙ ap Some (get_or-take (nodes + 1) items k nowhere (omega arith) ∙ get_or_from_slice_get items k (place k) nowhere (all.places k (omega arith)));
    }

-- ---- the entries of an event

pub filled : (new items : List ℕ) (n : ℕ) → new ≡ items → n ≡ length items → new ++ drop n (replicate 9 0) ≡ entries items
filled new items n e f = rw (e, f, drop-replicate {X = ℕ} (length items) 9 0) refl

-- ---- as many as there are ends

no_fewer : (P : ℕ → Type 0) (a b : ℕ) → ((n : ℕ) → (n < a) ↔ P n) → ((n : ℕ) → (n < b) ↔ P n) → b < a → ⊥
no_fewer P a b these those less = let bad = (those b).1 ((these b).0 less) in omega arith

pub same_count : (P : ℕ → Type 0) (a b : ℕ) → ((n : ℕ) → (n < a) ↔ P n) → ((n : ℕ) → (n < b) ↔ P n) → a ≡ b
same_count P a b these those =
    elim (cases_lt a b) [
      | inl less ↦ absurd (no_fewer P b a those these less)
      | inr more ↦ elim (cases_lt b a) [
        | inl less ↦ absurd (no_fewer P a b these those less)
        | inr also ↦ omega arith
      ]
    ]
