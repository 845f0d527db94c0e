-- How many addresses haven't replied.
use Rattle.std.proofs.Common.{◌≡◌, ℕ, ◌+◌, ◌<◌, Bool, true, false, not, cond, List, [], ◌∷◌, length, get_or, refl, arith, Some, count_by}
use Rattle.std.proofs.Math.ListN.{set}
use Rattle.std.proofs.lemmas.List.Sums.{sum_by-set, sum_by-cons}
use Rattle.std.proofs.lemmas.Option.{slice_get_within, get_or_from_slice_get}
use Rattle.std.specs.List.{slice_get}

-- one that hadn't replied has
pub one_less : (flags : List Bool) (i : ℕ) → slice_get flags i ≡ Some false → count_by not (set flags i true) + 1 ≡ count_by not flags
one_less flags i is =
    let within : i < length flags = slice_get_within flags i false is in
    let at : get_or flags i false ≡ false = get_or_from_slice_get flags i false false is in
    let e = rw at at (sum_by-set (λ (x : Bool). cond (not x) 1 0) flags i true false within) in
    omega (arith, e)

-- each has replied or hasn't
pub missing_and_not : (flags : List Bool) → count_by not flags + count_by (λ reply. reply) flags ≡ length flags
missing_and_not [] = refl
missing_and_not (true ∷ flags) = omega (arith, sum_by-cons (λ (x : Bool). cond (not x) 1 0) true flags, sum_by-cons (λ (x : Bool). cond x 1 0) true flags, missing_and_not flags)
missing_and_not (false ∷ flags) = omega (arith, sum_by-cons (λ (x : Bool). cond (not x) 1 0) false flags, sum_by-cons (λ (x : Bool). cond x 1 0) false flags, missing_and_not flags)
