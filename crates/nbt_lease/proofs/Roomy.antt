-- Entries that go into a map without any, one after another, are there as they were.
use Rattle.std.proofs.Common.{◌≡◌, false, List, [], ◌∷◌, ◌++◌, refl, sym, ap, subst, ◌∙◌}
use Rattle.nbt_lease.proofs.Common.{AllByRecursion, IsDistinct, keys_of, append-nil, append_assoc, IsDistinct-head, IsDistinct-tail, NameValue, same_name, Lease, Entries}
use Rattle.nbt_name.proofs.Same.{same_name-turned}
use Rattle.indexmap.specs.IndexMap.{insert_entry, insert_all}

-- a name that none has, behind some names, is another than that one
apart_from : (es : Entries) (name k : NameValue) (leases : List Lease) (rest : Entries) → AllByRecursion (λ (y : NameValue). same_name name y ≡ false) (keys_of (es ++ (k, leases) ∷ rest)) → same_name name k ≡ false
apart_from [] name k leases rest all = all.0
apart_from (e ∷ es) name k leases rest all = apart_from es name k leases rest all.1

-- an entry of a new name goes last
goes_last : (es : Entries) (k : NameValue) (leases : List Lease) (rest : Entries) → IsDistinct same_name (keys_of (es ++ (k, leases) ∷ rest)) → insert_entry same_name es k leases ≡ es ++ (k, leases) ∷ []
goes_last [] k leases rest names = refl
goes_last (e ∷ es) k leases rest names =
    rw (same_name-turned e.0 k (apart_from es e.0 k leases rest (IsDistinct-head same_name e.0 (keys_of (es ++ (k, leases) ∷ rest)) names)))
    (ap (λ (fs : Entries). e ∷ fs) (goes_last es k leases rest (IsDistinct-tail same_name e.0 (keys_of (es ++ (k, leases) ∷ rest)) names)))

all_behind : (es fs : Entries) → IsDistinct same_name (keys_of (es ++ fs)) → insert_all same_name es fs ≡ es ++ fs
all_behind es [] names = sym (append-nil es)
all_behind es (f ∷ fs) names =
    ap (λ (gs : Entries). insert_all same_name gs fs) (goes_last es f.0 f.1 fs names)
    ∙ (all_behind (es ++ f ∷ []) fs (subst (λ (gs : Entries). IsDistinct same_name (keys_of gs)) (sym (append_assoc es (f ∷ []) fs)) names)
    ∙ append_assoc es (f ∷ []) fs)

pub as_they_were : (es : Entries) → IsDistinct same_name (keys_of es) → insert_all same_name [] es ≡ es
as_they_were es names = all_behind [] es names
