-- Which kind is due, and that a line of it may be printed.
use Rattle.std.proofs.Common.{◌≡◌, ℕ, ◌+◌, Bool, true, false, cond, List, [], ◌∷◌, length, slice_index, Option, Some, None, refl, sym, subst, ◌∙◌}
use Rattle.std.specs.Prelude.{nat_lt, nat_le, ◌&&◌, ◌||◌, IsSome}
use Rattle.std.proofs.lemmas.Bool.{and_right, or_from, le-ltb, lt-leb}
use Rattle.nbt_lease.specs.Config.{milliseconds}
use Rattle.nbt_log.specs.Limiting.{LimiterValue, LimitersValue, Limits, LimitsKind, limiter_of, tells_all, has_room, is_old, leaves_out}
use Rattle.nbt_log.specs.Summary.{is_due, first_due, kinds}
use Rattle.nbt_log.specs.declared.entry.LineKind.{LineKind}

-- the kind that was found is due
abbrev Holds : LimitersValue → (now : ℕ) → Option LineKind → Type 0
Holds all now None = true ≡ true
Holds all now (Some of) = is_due (limiter_of all of) now ≡ true

first_holds : (all : LimitersValue) (now : ℕ) (some : List LineKind) → Holds all now (first_due all now some)
first_holds all now [] = refl
first_holds all now (one ∷ more) = go (is_due (limiter_of all one) now) refl (first_holds all now more)
  where
    go : (b : Bool) → is_due (limiter_of all one) now ≡ b → Holds all now (first_due all now more) → Holds all now (cond b (Some one) (first_due all now more))
    go true due behind = due
    go false none behind = behind

-- where a kind is due, its line isn't left out
gives : (old new : LimiterValue) (now : ℕ) (result : Option ℕ) → is_due old now ≡ true → Limits old now result new → IsSome result
gives old new now _ due (tells_all all) = refl
gives old new now _ due (has_room few) = refl
gives old new now _ due (is_old some full past) = refl
gives old new now _ due (leaves_out some full early) =
    let ended = slice_index old.told 0 + milliseconds 1 in
    let room = nat_lt (length old.told) old.most || nat_le ended now in
    let no_room = or_from (nat_lt (length old.told) old.most) (nat_le ended now) (le-ltb (length old.told) old.most full) (lt-leb ended now early) in
    sym (and_right (nat_lt 0 old.left_out && nat_lt 0 old.most) room no_room) ∙ due

pub takes_due : (all new : LimitersValue) (of : LineKind) (now : ℕ) (result : Option ℕ) → first_due all now kinds ≡ Some of → LimitsKind all of now result new → IsSome result
takes_due all new of now result first limits = gives (limiter_of all of) limits.0 now result (subst (Holds all now) first (first_holds all now kinds)) limits.1
