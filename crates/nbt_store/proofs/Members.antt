-- What changes make of the map of leases.
use Rattle.std.proofs.Common.{◌≡◌, ◌∙◌, ℕ, List, [], ◌∷◌, ◌++◌, Option, Some, None, inl, inr, ap, sym, refl}
use Rattle.std.specs.Prelude.{cond, unwrap_or, filter, map}
use Rattle.std.specs.Map.{lookup, keys_of}
use Rattle.std.specs.List.{IsDistinct}
use Rattle.std.proofs.lemmas.Bool.{cases_Bool, cond-true, cond-false}
use Rattle.nbt_name.specs.Wire.{NameValue, same_name}
use Rattle.nbt_name.proofs.Same.{same_name-true}
use Rattle.nbt_lease.specs.declared.lease.Lease.{Lease}
use Rattle.nbt_lease.specs.Lease.{Leases, at_name, is_live}
use Rattle.nbt_lease.specs.Inner.Index.{Entries, members_of, rows_of}
use Rattle.nbt_lease.proofs.Agreeing.{members_at}
use Rattle.nbt_lease.proofs.Flat.{leases_are}
use Rattle.nbt_lease.proofs.Rows.{same_leases}
use Rattle.nbt_store.specs.declared.change.Change.{Change}
use Rattle.nbt_store.specs.Changes.{after, after_all, begins, goes, moves, with_end, without}
use Rattle.nbt_store.specs.Loading.{AreRowsOf}

-- no leases of a name, and it gets none
pub none_at_name : (leases : Leases) (name : NameValue) → leases name ≡ [] → at_name name [] leases ≡ leases
none_at_name leases name none = same_leases (at_name name [] leases) leases (λ q. elim (cases_Bool (same_name q name)) [
  | inl t ↦ cond-true (same_name q name) [] (leases q) t ∙ sym (ap leases (same_name-true q name t) ∙ none)
  | inr f ↦ cond-false (same_name q name) [] (leases q) f
])

-- a new name's first lease
pub first_begins : (es fs : Entries) (name : NameValue) (lease : Lease) → lookup (same_name name) es ≡ None → ((q : NameValue) → lookup (same_name q) fs ≡ cond (same_name name q) (Some (lease ∷ [])) (lookup (same_name q) es))
    → members_of fs ≡ begins name lease (members_of es)
first_begins es fs name lease new map =
    members_at es fs name (Some (lease ∷ [])) map
    ∙ sym (ap (λ (ls : List Lease). at_name name (without lease.addr ls ++ lease ∷ []) (members_of es)) (ap (λ (o : Option (List Lease)). unwrap_or o []) new))

pub changes_append : (cs ds : List Change) (leases : Leases) → after_all (cs ++ ds) leases ≡ after_all ds (after_all cs leases)
changes_append [] ds leases = refl
changes_append (c ∷ cs) ds leases = changes_append cs ds (after c leases)

-- the rows that are listed
pub rows_of_changes : (es : Entries) (cs : List Change) (leases : Leases) → IsDistinct same_name (keys_of es) → members_of es ≡ after_all cs leases → AreRowsOf (rows_of es) (after_all cs leases)
rows_of_changes es cs leases distinct e moment name = leases_are moment es name distinct ∙ ap (λ (f : Leases). filter (is_live moment) (f name)) e

none_there : (es : Entries) (name : NameValue) → lookup (same_name name) es ≡ None → members_of es name ≡ []
none_there es name new = ap (λ (o : Option (List Lease)). unwrap_or o []) new

-- a change of a name that has no leases
pub none_moves : (es fs : Entries) (name : NameValue) (addr end : ℕ) → lookup (same_name name) es ≡ None → fs ≡ es → members_of fs ≡ moves name addr end (members_of es)
none_moves es fs name addr end new same =
    ap members_of same ∙ sym (none_at_name (members_of es) name (none_there es name new)) ∙ sym (ap (λ (ls : List Lease). at_name name (with_end addr end ls) (members_of es)) (none_there es name new))

pub none_goes : (es fs : Entries) (name : NameValue) (addr : ℕ) → lookup (same_name name) es ≡ None → fs ≡ es → members_of fs ≡ goes name addr (members_of es)
none_goes es fs name addr new same =
    ap members_of same ∙ sym (none_at_name (members_of es) name (none_there es name new)) ∙ sym (ap (λ (ls : List Lease). at_name name (without addr ls) (members_of es)) (none_there es name new))

pub some_moves : (es fs : Entries) (name : NameValue) (addr end : ℕ) → ((q : NameValue) → lookup (same_name q) fs ≡ cond (same_name name q) (Some (with_end addr end (members_of es name))) (lookup (same_name q) es)) → members_of fs ≡ moves name addr end (members_of es)
some_moves es fs name addr end map = members_at es fs name (Some (with_end addr end (members_of es name))) map

pub some_goes : (es fs : Entries) (name : NameValue) (addr : ℕ) → ((q : NameValue) → lookup (same_name q) fs ≡ cond (same_name name q) (Some (without addr (members_of es name))) (lookup (same_name q) es)) → members_of fs ≡ goes name addr (members_of es)
some_goes es fs name addr map = members_at es fs name (Some (without addr (members_of es name))) map

pub some_begins : (es fs : Entries) (name : NameValue) (lease : Lease) → ((q : NameValue) → lookup (same_name q) fs ≡ cond (same_name name q) (Some (without lease.addr (members_of es name) ++ lease ∷ [])) (lookup (same_name q) es)) → members_of fs ≡ begins name lease (members_of es)
some_begins es fs name lease map = members_at es fs name (Some (without lease.addr (members_of es name) ++ lease ∷ [])) map
