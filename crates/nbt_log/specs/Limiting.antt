-- At most so many lines of a kind in any second (our profile).
use Rattle.std.specs.Prelude.{◌≡◌, ℕ, ◌+◌, ◌-◌, ◌^◌, ◌<◌, ◌≤◌, min, List, [], ◌∷◌, ◌++◌, length, drop, slice_index, Option, Some, None}
use Rattle.nbt_lease.specs.Config.{milliseconds}
use Rattle.nbt_log.specs.declared.entry.LineKind.{LineKind}
use Rattle.nbt_log.specs.declared.entry.LineKind.TheVariants as kind

-- so many lines are printed in a second at most, where nothing else is said
abbrev pub lines_most : ℕ
lines_most = 10

-- so many times of lines are remembered at most
abbrev pub times_most : ℕ
times_most = 255

-- How many lines are printed in a second at most, all where it is 0; the moments of so many lines that were the last; and how many
-- were left out since.
pub record LimiterValue : Type 0 where
  pub most : ℕ
  pub told : List ℕ
  pub left_out : ℕ

-- the line is the last one now, and none is left out since
abbrev pub told_at : (most : ℕ) → List ℕ → ℕ → LimiterValue
told_at most before now = record { most = most; told = before ++ now ∷ []; left_out = 0 }

-- A line is printed where all are, while there are fewer than so many, or where the first of the last so many is a second old; then
-- that one is forgotten. Else it is one more that is left out, of 2^64 - 1 at most.
pub data Limits (old : LimiterValue) (now : ℕ) : Option ℕ → LimiterValue → Type 0 where
  tells_all : old.most ≡ 0 → Limits old now (Some old.left_out) (record old { left_out = 0 })
  has_room : length old.told < old.most → Limits old now (Some old.left_out) (told_at old.most old.told now)
  is_old : 0 < old.most → old.most ≤ length old.told → slice_index old.told 0 + milliseconds 1 ≤ now → Limits old now (Some old.left_out) (told_at old.most (drop 1 old.told) now)
  leaves_out : 0 < old.most → old.most ≤ length old.told → now < slice_index old.told 0 + milliseconds 1 → Limits old now None (record old { left_out = min (old.left_out + 1) (2 ^ 64 - 1) })

-- ---- of each kind

-- what is remembered of the lines of each kind
pub record LimitersValue : Type 0 where
  pub granted : LimiterValue
  pub renewed : LimiterValue
  pub refused : LimiterValue
  pub released : LimiterValue
  pub not_released : LimiterValue
  pub unanswered : LimiterValue
  pub foreign : LimiterValue
  pub malformed : LimiterValue
  pub broadcast : LimiterValue

-- nothing was printed yet
abbrev pub limiter_at : (most : ℕ) → LimiterValue
limiter_at most = record { most = most; told = []; left_out = 0 }

abbrev pub limiters_at : (most : ℕ) → LimitersValue
limiters_at most = let one = limiter_at most in
    record { granted = one; renewed = one; refused = one; released = one; not_released = one; unanswered = one; foreign = one; malformed = one; broadcast = one }

abbrev pub limiter_of : LimitersValue → LineKind → LimiterValue
limiter_of all kind.Granted = all.granted
limiter_of all kind.Renewed = all.renewed
limiter_of all kind.Refused = all.refused
limiter_of all kind.Released = all.released
limiter_of all kind.NotReleased = all.not_released
limiter_of all kind.Unanswered = all.unanswered
limiter_of all kind.Foreign = all.foreign
limiter_of all kind.Malformed = all.malformed
limiter_of all kind.Broadcast = all.broadcast

abbrev pub with_limiter : LimitersValue → LineKind → LimiterValue → LimitersValue
with_limiter all kind.Granted one = record all { granted = one }
with_limiter all kind.Renewed one = record all { renewed = one }
with_limiter all kind.Refused one = record all { refused = one }
with_limiter all kind.Released one = record all { released = one }
with_limiter all kind.NotReleased one = record all { not_released = one }
with_limiter all kind.Unanswered one = record all { unanswered = one }
with_limiter all kind.Foreign one = record all { foreign = one }
with_limiter all kind.Malformed one = record all { malformed = one }
with_limiter all kind.Broadcast one = record all { broadcast = one }

-- A line of a kind is limited by those of its kind alone.
abbrev pub LimitsKind : (old : LimitersValue) → LineKind → (now : ℕ) → Option ℕ → LimitersValue → Type 0
LimitsKind old of now result new = (one : LimiterValue) × Limits (limiter_of old of) now result one × (new ≡ with_limiter old of one)
