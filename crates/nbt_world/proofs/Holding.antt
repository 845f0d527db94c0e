-- Which nodes hold a name, as a list in order of their numbers.
use Rattle.std.proofs.Common.{◌≡◌, ℕ, zero, suc, ◌+◌, ◌<◌, ◌≤◌, List, [], ◌∷◌, ◌++◌, length, get_or, Option, Some, None, refl, sym, ap, subst, ◌∙◌, arith, inl, inr}
use Rattle.std.specs.Prelude.{slice_get, Contains, ◌⊎◌, ◌↔◌}
use Rattle.std.proofs.lemmas.List.Elements.{Contains-push_cases, Contains-append_left, Contains-push}
use Rattle.std.proofs.lemmas.List.{get_or_append_left, get_or_push, length_push}
use Rattle.std.proofs.lemmas.Option.{slice_get_read, slice_get_past, none-some, same_Some}
use Rattle.std.proofs.lemmas.Bool.{cases_lt, cases_eq}
use Rattle.nbt_name.specs.declared.addr.Kind.{Kind}
use Rattle.nbt_name.specs.Wire.{NameValue}
use Rattle.nbt_world.specs.declared.ends.NodeEnd.{NodeEnd}
use Rattle.nbt_world.specs.declared.ends.Holder.{Holder}
use Rattle.nbt_world.specs.declared.clocks.Clocks.{Clocks}
use Rattle.nbt_world.specs.Drift.{reading}
use Rattle.nbt_world.specs.World.{WorldValue, node_in}
use Rattle.nbt_world.specs.Safety.{held_by, holding}

abbrev pub held_at_place : List NodeEnd → (index : ℕ) → NameValue → (now : Clocks) → Option Kind
held_at_place nodes index name now = held_by (node_in (slice_get nodes index)) name (reading now (suc index))

-- these are the holders among the first nodes
pub record AreHolders (nodes : List NodeEnd) (name : NameValue) (now : Clocks) (count : ℕ) (holders : List Holder) : Type 0 where
  pub holders_at_most : length holders ≤ count
  pub only : (h : Holder) → Contains holders h → (index : ℕ) × (index < count) × (h.node ≡ suc index) × (held_at_place nodes index name now ≡ Some h.kind)
  pub all : (index : ℕ) (kind : Kind) → index < count → held_at_place nodes index name now ≡ Some kind → Contains holders (record { node = suc index; kind = kind })
  pub in_order : (i j : ℕ) (d : Holder) → i < j → j < length holders → (get_or holders i d).node < (get_or holders j d).node

-- one place more, which holds nothing
pub passes_over : {nodes : List NodeEnd} {name : NameValue} {now : Clocks} {count : ℕ} {holders : List Holder} → held_at_place nodes count name now ≡ None → AreHolders nodes name now count holders → AreHolders nodes name now (count + 1) holders
passes_over {nodes} {name} {now} {count} {holders} none are = record {
  holders_at_most = let most = are.holders_at_most in omega arith;
  only = λ h c. let o = are.only h c in (o.0, (let lt = o.1 in omega arith), o.2, o.3);
  all = λ index kind lt is. at index kind lt is (cases_eq index count);
  in_order = are.in_order;
}
  where
    at : (index : ℕ) (kind : Kind) → index < count + 1 → held_at_place nodes index name now ≡ Some kind → (index ≡ count) ⊎ (index ≡ count → ⊥) → Contains holders (record { node = suc index; kind = kind })
    at index kind lt is (inl e) = absurd (none-some kind (sym none ∙ sym (ap (λ (k : ℕ). held_at_place nodes k name now) e) ∙ is))
    at index kind lt is (inr ne) = are.all index kind (omega arith) is

-- one place more, which holds the name
pub takes_in : {nodes : List NodeEnd} {name : NameValue} {now : Clocks} {count : ℕ} {holders : List Holder} (kind : Kind) → held_at_place nodes count name now ≡ Some kind → AreHolders nodes name now count holders
    → AreHolders nodes name now (count + 1) (holders ++ record { node = count + 1; kind = kind } ∷ [])
takes_in {nodes} {name} {now} {count} {holders} kind held are = record {
  holders_at_most = let most = are.holders_at_most in omega (arith, length_push holders (record { node = count + 1; kind = kind }));
  only = λ h c. only h (Contains-push_cases holders (record { node = count + 1; kind = kind }) h c);
  all = λ index k lt is. all index k lt is (cases_eq index count);
  in_order = λ i j d lt within. order i j d lt (cases_lt j (length holders)) (let e = length_push holders (record { node = count + 1; kind = kind }) in omega arith);
}
  where
    only : (h : Holder) → Contains holders h ⊎ (record { node = count + 1; kind = kind } ≡ h) → (index : ℕ) × (index < count + 1) × (h.node ≡ suc index) × (held_at_place nodes index name now ≡ Some h.kind)
    only h (inl c) = let o = are.only h c in (o.0, (let lt = o.1 in omega arith), o.2, o.3)
    only h (inr e) = (count, omega arith, (let n = ap (λ (x : Holder). x.node) e in omega arith), held ∙ ap (λ (x : Holder). Some x.kind) e)

    all : (index : ℕ) (k : Kind) → index < count + 1 → held_at_place nodes index name now ≡ Some k → (index ≡ count) ⊎ (index ≡ count → ⊥) → Contains (holders ++ record { node = count + 1; kind = kind } ∷ []) (record { node = suc index; kind = k })
    all index k lt is (inl e) =
        let same : kind ≡ k = same_Some kind k (sym held ∙ sym (ap (λ (n : ℕ). held_at_place nodes n name now) e) ∙ is) in
        let number : count + 1 ≡ suc index = omega arith in
        subst (λ (x : Holder). Contains (holders ++ record { node = count + 1; kind = kind } ∷ []) x) (λ i. record { node = number i; kind = same i }) (Contains-push holders (record { node = count + 1; kind = kind }))
    all index k lt is (inr ne) = Contains-append_left holders _ _ (are.all index k (omega arith) is)

    -- the last one has the greatest number
    order : (i j : ℕ) (d : Holder) → i < j → (j < length holders) ⊎ (length holders ≤ j) → j < length holders + 1
        → (get_or (holders ++ record { node = count + 1; kind = kind } ∷ []) i d).node < (get_or (holders ++ record { node = count + 1; kind = kind } ∷ []) j d).node
    order i j d lt (inl inside) within =
        rw (get_or_append_left holders (record { node = count + 1; kind = kind } ∷ []) d i (omega arith), get_or_append_left holders (record { node = count + 1; kind = kind } ∷ []) d j inside) (are.in_order i j d lt inside)
    order i j d lt (inr past) within =
        let at : length holders ≡ j = omega arith in
        let inside : i < length holders = omega arith in
        let o = are.only (get_or holders i d) (i, inside, get_or_same holders i d inside) in
        rw (get_or_append_left holders (record { node = count + 1; kind = kind } ∷ []) d i inside, get_or_push holders (record { node = count + 1; kind = kind }) d j at) (let a = o.1 in let b = o.2 in omega arith)
      where
        get_or_same : (xs : List Holder) (k : ℕ) (d : Holder) → k < length xs → get_or xs k (get_or xs k d) ≡ get_or xs k d
        get_or_same [] k d lt = refl
        get_or_same (x ∷ xs) zero d lt = refl
        get_or_same (x ∷ xs) (suc k) d lt = get_or_same xs k d (omega arith)

-- all of them
are_all : (w : WorldValue) {name : NameValue} {count : ℕ} {holders : List Holder} → length w.ends.nodes.items ≤ count → AreHolders w.ends.nodes.items name w.now count holders
    → (number : ℕ) (kind : Kind) → Contains holders (record { node = number; kind = kind }) ↔ (holding w number name ≡ Some kind)
are_all w {name} {count} {holders} le are number kind = (λ c. found (are.only _ c), λ is. lists number is)
  where
    found : ((index : ℕ) × (index < count) × (number ≡ suc index) × (held_at_place w.ends.nodes.items index name w.now ≡ Some kind)) → holding w number name ≡ Some kind
    found o = subst (λ (n : ℕ). holding w n name ≡ Some kind) (sym o.2) o.3

    lists : (n : ℕ) → holding w n name ≡ Some kind → Contains holders (record { node = n; kind = kind })
    lists zero is = absurd (none-some kind is)
    lists (suc i) is = at (cases_lt i (length w.ends.nodes.items))
      where
        at : (i < length w.ends.nodes.items) ⊎ (length w.ends.nodes.items ≤ i) → Contains holders (record { node = suc i; kind = kind })
        at (inl inside) = are.all i kind (omega arith) is
        at (inr past) = absurd (none-some kind (sym (ap (λ (o : Option NodeEnd). held_by (node_in o) name (reading w.now (suc i))) (slice_get_past w.ends.nodes.items i past)) ∙ is))

-- ---- as the code reads it

pub reads_held : (nodes : List NodeEnd) (index : ℕ) (name : NameValue) {end : NodeEnd} {now clocks : Clocks} {clock : ℕ} {o : Option Kind} → index < length nodes → end ≡ get_or nodes index end → clocks ≡ now → clock ≡ reading clocks (index + 1)
    → o ≡ held_by end.node name clock → held_at_place nodes index name now ≡ o
reads_held nodes index name {end} {now} {clock = clock} lt is same read held =
    let next : index + 1 ≡ suc index = omega arith in
    let at : clock ≡ reading now (suc index) = read ∙ ap (λ (c : Clocks). reading c (index + 1)) same ∙ ap (reading now) next in
    ap (λ (x : Option NodeEnd). held_by (node_in x) name (reading now (suc index))) (slice_get_read nodes (length nodes) index end refl lt is) ∙ sym (held ∙ ap (λ (t : ℕ). held_by end.node name t) at)

pub are_all_in : (w : WorldValue) {nodes : List NodeEnd} {name : NameValue} {count : ℕ} {holders : List Holder} → nodes ≡ w.ends.nodes.items → length nodes ≤ count → AreHolders nodes name w.now count holders
    → (number : ℕ) (kind : Kind) → Contains holders (record { node = number; kind = kind }) ↔ (holding w number name ≡ Some kind)
are_all_in w {name = name} {count} {holders} same le are number kind =
    are_all w (subst (λ (xs : List NodeEnd). length xs ≤ count) same le) (subst (λ (xs : List NodeEnd). AreHolders xs name w.now count holders) same are) number kind
