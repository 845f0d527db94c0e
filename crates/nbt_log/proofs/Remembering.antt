-- Which line may be printed, by what the limiter remembers.
use Rattle.std.proofs.Common.{◌≡◌, ℕ, ◌+◌, ◌-◌, ◌^◌, ◌<◌, ◌≤◌, min, length, drop, slice_index, Option, Some, None, subst}
use Rattle.nbt_lease.specs.Config.{milliseconds}
use Rattle.nbt_log.specs.Limiting.{LimiterValue, LimitersValue, Limits, LimitsKind, limiter_of, with_limiter, told_at, tells_all, has_room, is_old, leaves_out}
use Rattle.nbt_log.specs.declared.entry.LineKind.{LineKind}

pub all_told : (old here new : LimiterValue) (now left : ℕ) → here ≡ old → here.most ≡ 0 → left ≡ here.left_out → new ≡ record here { left_out = 0 } → Limits old now (Some left) new
all_told old here new now left same all is counted = rw (is, counted) (subst (λ (o : LimiterValue). Limits o now (Some here.left_out) (record here { left_out = 0 })) same (tells_all all))

pub room : (old here new : LimiterValue) (now left : ℕ) → here ≡ old → length here.told < here.most → left ≡ here.left_out → new ≡ told_at here.most here.told now → Limits old now (Some left) new
room old here new now left same few is told = rw (is, told) (subst (λ (o : LimiterValue). Limits o now (Some here.left_out) (told_at here.most here.told now)) same (has_room few))

pub aged : (old here new : LimiterValue) (now left : ℕ) → here ≡ old → 0 < here.most → here.most ≤ length here.told → slice_index here.told 0 + milliseconds 1 ≤ now → left ≡ here.left_out → new ≡ told_at here.most (drop 1 here.told) now
    → Limits old now (Some left) new
aged old here new now left same some full past is told = rw (is, told) (subst (λ (o : LimiterValue). Limits o now (Some here.left_out) (told_at here.most (drop 1 here.told) now)) same (is_old some full past))

pub one_left_out : (old here : LimiterValue) (now left : ℕ) → here ≡ old → 0 < here.most → here.most ≤ length here.told → now < slice_index here.told 0 + milliseconds 1 → left ≡ min (here.left_out + 1) (2 ^ 64 - 1)
    → Limits old now None (record { most = here.most; told = here.told; left_out = left })
one_left_out old here now left same some full early is = rw is (subst (λ (o : LimiterValue). Limits o now None (record here { left_out = min (here.left_out + 1) (2 ^ 64 - 1) })) same (leaves_out some full early))

-- a line of one kind, by the parts of what is remembered of all
pub of_kind : (old here new : LimitersValue) (kind : LineKind) (now : ℕ) (result : Option ℕ) (one : LimiterValue) → here ≡ old → Limits (limiter_of here kind) now result one → new ≡ with_limiter here kind one
    → LimitsKind old kind now result new
of_kind old here new kind now result one same limits is = subst (λ (o : LimitersValue). LimitsKind o kind now result new) same (one, limits, is)
