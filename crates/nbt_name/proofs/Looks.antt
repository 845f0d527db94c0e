-- What `get` returns, as `slice_get`.
use Rattle.std.proofs.Common.{◌≡◌, ℕ, List, length, get_or, Some, None, sym, ltb, true, false, zero, suc, ◌∷◌, [], drop, ltb-true, ltb-false}
use Rattle.nbt_name.proofs.Common.{slice_get, slice_get-get_or, slice_get_past}

pub none_at : (xs : List ℕ) (i : ℕ) → false ≡ ltb i (length xs) → slice_get xs i ≡ None
none_at xs i e = slice_get_past xs i (ltb-false i (length xs) (sym e))

pub some_at : (xs : List ℕ) (i x : ℕ) → true ≡ ltb i (length xs) → x ≡ get_or xs i x → slice_get xs i ≡ Some x
some_at xs i x e is = rw is (slice_get-get_or xs i x (ltb-true i (length xs) (sym e)))

-- what stands at a place is the front of what is dropped to there
pub drop_found : (xs : List ℕ) (p x : ℕ) → slice_get xs p ≡ Some x → drop p xs ≡ x ∷ drop (suc p) xs
drop_found [] p x found = absurd cc
drop_found (y ∷ ys) zero x found = cc
drop_found (y ∷ ys) (suc p) x found = drop_found ys p x found
