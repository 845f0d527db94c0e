-- What was left out of a list, and the last time of changes.
use Rattle.std.proofs.Common.{◌≡◌, ℕ, ◌≤◌, length, Bool, List, [], ◌∷◌, ◌++◌, refl, ⊎_elim, arith}
use Rattle.std.specs.Prelude.{max, filter}
use Rattle.std.proofs.Math.Nat.{le-max_left, le-max_right}
use Rattle.nbt_lease.proofs.Common.{cases_Bool}
use Rattle.nbt_lease.specs.Lease.{Leases, Rows}
use Rattle.nbt_store.specs.declared.change.Change.{Change}
use Rattle.nbt_store.specs.declared.change.Change.TheVariants.{Began}
use Rattle.nbt_store.specs.declared.form.Form.TheVariants.{Three}
use Rattle.nbt_store.specs.Lines.{AllStand}
use Rattle.nbt_store.specs.Changes.{after, after_all, at_of, begun_all, last_of, Stands}
use Rattle.nbt_serve.specs.Runs.{LeavesOut, nothing, not_this, this}

-- ---- what was left out

all_left_out : {A : Type 0} (ys : List A) → LeavesOut [] ys
all_left_out [] = nothing
all_left_out (y ∷ ys) = this y [] ys (all_left_out ys)

none_left_out : {A : Type 0} (xs : List A) → LeavesOut xs xs
none_left_out [] = nothing
none_left_out (x ∷ xs) = not_this x xs xs (none_left_out xs)

-- what stands behind both
pub out_behind : {A : Type 0} (xs ys zs : List A) → LeavesOut xs ys → LeavesOut (xs ++ zs) (ys ++ zs)
out_behind _ _ zs nothing = none_left_out zs
out_behind _ _ zs (not_this x xs ys l) = not_this x (xs ++ zs) (ys ++ zs) (out_behind xs ys zs l)
out_behind _ _ zs (this y xs ys l) = this y (xs ++ zs) (ys ++ zs) (out_behind xs ys zs l)

-- what stands behind what it was left out of
pub out_on : {A : Type 0} (xs ys zs : List A) → LeavesOut xs ys → LeavesOut xs (ys ++ zs)
out_on _ _ zs nothing = all_left_out zs
out_on _ _ zs (not_this x xs ys l) = not_this x xs (ys ++ zs) (out_on xs ys zs l)
out_on _ _ zs (this y xs ys l) = this y xs (ys ++ zs) (out_on xs ys zs l)

pub fewer : {A : Type 0} (p : A → Bool) (xs : List A) → length (filter p xs) ≤ length xs
fewer p [] = omega arith
fewer p (x ∷ xs) =
    let h = fewer p xs in
    ⊎_elim (λ is. rw is (omega (arith, h))) (λ is. rw is (omega (arith, h))) (cases_Bool (p x))

-- ---- the last time

pub last_from : (first : ℕ) (changes : List Change) → first ≤ last_of first changes
last_from first [] = omega arith
last_from first (c ∷ cs) = let h = last_from (max first (at_of c)) cs in let l = le-max_left first (at_of c) in omega (arith, h, l)

last_more : (first : ℕ) (changes : List Change) (change : Change) → last_of first (changes ++ change ∷ []) ≡ max (last_of first changes) (at_of change)
last_more first [] change = refl
last_more first (c ∷ cs) change = last_more (max first (at_of c)) cs change

pub last_on : (first : ℕ) (changes : List Change) (change : Change) → last_of first changes ≤ last_of first (changes ++ change ∷ [])
last_on first changes change = let e = last_more first changes change in let l = le-max_left (last_of first changes) (at_of change) in omega (arith, e, l)

pub last_at : (first : ℕ) (changes : List Change) (change : Change) → at_of change ≤ last_of first (changes ++ change ∷ [])
last_at first changes change = let e = last_more first changes change in let l = le-max_right (last_of first changes) (at_of change) in omega (arith, e, l)

-- ---- each change that moves or releases a lease has one

pub stand_more : (changes : List Change) (change : Change) (leases : Leases) → AllStand Three changes leases → Stands change (after_all changes leases) → AllStand Three (changes ++ change ∷ []) leases
stand_more [] change leases all one = (one, tt)
stand_more (c ∷ cs) change leases all one = (all.0, stand_more cs change (after c leases) all.1 one)

pub stand_begun : (at : ℕ) (rows : Rows) (leases : Leases) → AllStand Three (begun_all at rows) leases
stand_begun at [] leases = tt
stand_begun at (row ∷ rows) leases = (tt, stand_begun at rows (after (Began row.0 row.1 at) leases))
