-- The entries of a listener, as they stand at their places.
use Rattle.std.proofs.Common.{◌≡◌, ℕ, ◌<◌, Bool, true, false, List, [], ◌∷◌, map, length, get_or, Option, Some, None, cond, refl, sym, ap, ◌∙◌, arith}
use Rattle.std.specs.Prelude.{slice_get, filter}
use Rattle.std.proofs.Math.ListN.{get_or-map}
use Rattle.std.proofs.lemmas.List.{length-map}
use Rattle.std.proofs.lemmas.Option.{same_Some, slice_get-get_or}
use Rattle.nbt_name.proofs.Same.{same_name-true, same_name-same}
use Rattle.nbt_name.specs.Wire.{NameValue, same_name}
use Rattle.nbt_session.specs.declared.listener.Entry.{Entry}
use Rattle.nbt_session.specs.Inner.Listening.{AreEntries, entries_in, is_for}

-- what is read at a place
pub read_at : (places : List (Option Entry)) (listed : List Entry) → AreEntries places listed → (k : ℕ) (d : Entry) → get_or places k (Some d) ≡ Some (get_or listed k d)
read_at places listed are k d = ap (λ ps. get_or ps k (Some d)) are ∙ get_or-map Some listed k d

pub as_many : (places : List (Option Entry)) (listed : List Entry) → AreEntries places listed → length places ≡ length listed
as_many places listed are = ap length are ∙ length-map listed Some

-- an entry that stands at a place is the one that is listed there
pub same_at : (places : List (Option Entry)) (listed : List Entry) → AreEntries places listed → (k : ℕ) (place : Option Entry) (e : Entry) → place ≡ get_or places k place → place ≡ Some e → get_or listed k e ≡ e
same_at places listed are k place e stands is = same_Some _ _ (sym (read_at places listed are k e) ∙ (sym (ap (get_or places k) is) ∙ (sym stands ∙ is)))

pub listed_at : (places : List (Option Entry)) (listed : List Entry) → AreEntries places listed → (k : ℕ) (place : Option Entry) (e : Entry) → k < length places → place ≡ get_or places k place → place ≡ Some e → slice_get listed k ≡ Some e
listed_at places listed are k place e less stands is =
    slice_get-get_or listed k e (omega (arith, less, as_many places listed are)) ∙ ap Some (same_at places listed are k place e stands is)

-- the entry of a name that stands at a place
pub named : (place : Option Entry) (called : NameValue) → is_for place called ≡ true → (e : Entry) × (place ≡ Some e) × (e.called ≡ called)
named None called is = absurd cc
named (Some e) called is = (e, refl, same_name-true e.called called is)

pub is_named : (place : Option Entry) (e : Entry) (called : NameValue) → place ≡ Some e → e.called ≡ called → is_for place called ≡ true
is_named place e called is same = (λ i. is_for (is i) called) ∙ ((λ i. same_name e.called (sym same i)) ∙ same_name-same e.called)

-- the entries at places at each of which one stands
pub back_again : (listed : List Entry) → entries_in (map Some listed) ≡ listed
back_again [] = refl
back_again (e ∷ listed) = ap (λ es. e ∷ es) (back_again listed)

pub they_are : (places : List (Option Entry)) (listed : List Entry) → AreEntries places listed → entries_in places ≡ listed
they_are places listed are = ap entries_in are ∙ back_again listed

-- places that are left out, by their entries
chosen : (b : Bool) (e : Entry) (xs : List (Option Entry)) (ys : List Entry) → xs ≡ map Some ys → cond b (Some e ∷ xs) xs ≡ map Some (cond b (e ∷ ys) ys)
chosen true e xs ys rest = ap (λ zs. Some e ∷ zs) rest
chosen false e xs ys rest = rest

pub left_out : (test : Option Entry → Bool) (listed : List Entry) → filter test (map Some listed) ≡ map Some (filter (λ e. test (Some e)) listed)
left_out test [] = refl
left_out test (e ∷ listed) = chosen (test (Some e)) e _ _ (left_out test listed)
