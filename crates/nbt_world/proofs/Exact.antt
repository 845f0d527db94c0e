-- Along a run a flag says exactly whether it was true before, and the readings kept a bound to the least numbers of before and
-- between any two of its worlds: `kept` says so of the drift bound, and `timely` of what timely readings keep of it.
use Rattle.std.proofs.Common.{◌≡◌, ℕ, zero, suc, ◌+◌, ◌-◌, ◌*◌, ◌^◌, ◌≤◌, Bool, List, [], ◌∷◌, ◌++◌, length, Some, refl, sym, ap, subst, ◌∙◌, arith, inl, inr}
use Rattle.std.specs.Prelude.{IsTrue, ◌↔◌, ◌⊎◌, min, slice_get}
use Rattle.std.proofs.lemmas.Option.{none-some, same_Some, slice_get_within}
use Rattle.nbt_name.specs.declared.addr.Addr.{Addr}
use Rattle.nbt_lease.specs.Config.{ConfigValue}
use Rattle.nbt_world.specs.declared.clocks.Clocks.{Clocks}
use Rattle.nbt_world.specs.declared.clocks.Least.{Least}
use Rattle.nbt_world.specs.Drift.{reading, ahead, behind, IsBounded, IsTimely, least_of, numbers_of, lesser, IsAllowed, IsAllowedTimely}
use Rattle.nbt_world.specs.World.{WorldValue, IsEnd, addr_of, IsFresh}
use Rattle.nbt_world.specs.Inner.Kept.{IsSeen, AreRead}
use Rattle.nbt_world.proofs.Drifting.{bounded, bounded_timely}

-- ---- what a step makes of the clocks

pub record Goes (w v : WorldValue) : Type 0 where
  pub clock : w.now.clock ≤ v.now.clock
  pub read : AreRead v
  pub seen : (n : ℕ) → IsEnd w.ends n → (moment : Clocks) → IsSeen w.least w.now moment n → IsSeen v.least v.now moment n
  pub least : (n : ℕ) → IsEnd w.ends n → least_of v.least n ≡ lesser (least_of w.least n) (numbers_of v.now n)
  pub kept : IsTrue v.kept ↔ (IsTrue w.kept × ((n : ℕ) → IsEnd w.ends n → IsAllowed (least_of v.least n) v.now n))
  pub timely : IsTrue v.timely ↔ (IsTrue w.timely × ((n : ℕ) → IsEnd w.ends n → IsAllowedTimely (least_of v.least n) v.now n))
  pub same : (n : ℕ) → addr_of v.ends n ≡ addr_of w.ends n

-- What is known of the worlds along a run: they are no later than the last, the same ends are in each, and the least numbers are
-- no greater than those of before.
pub record Traced (old : WorldValue) (worlds : List WorldValue) (last : WorldValue) : Type 0 where
  pub read : AreRead last
  pub first : slice_get worlds 0 ≡ Some old
  pub same : (i : ℕ) (v : WorldValue) → slice_get worlds i ≡ Some v → (n : ℕ) → addr_of last.ends n ≡ addr_of v.ends n
  pub before : (i : ℕ) (v : WorldValue) → slice_get worlds i ≡ Some v → v.now.clock ≤ last.now.clock
  pub seen : (i : ℕ) (v : WorldValue) → slice_get worlds i ≡ Some v → (n : ℕ) → IsEnd last.ends n → IsSeen last.least last.now v.now n
  pub lower : (n : ℕ) → IsEnd last.ends n → ((least_of last.least n).ahead ≤ (least_of old.least n).ahead) × ((least_of last.least n).behind ≤ (least_of old.least n).behind)

-- ---- bounds

-- What readings are held to: what is allowed above the least numbers, and what that says of any two moments.
pub record IsBound (Allowed : Least → Clocks → ℕ → Type 0) (Bounded : Clocks → Clocks → ℕ → Type 0) : Type 0 where
  pub of_lesser : (a b : Least) (late : Clocks) (n : ℕ) → Allowed a late n → Allowed b late n → Allowed (lesser a b) late n
  pub of_more : (a b : Least) (late : Clocks) (n : ℕ) → b.ahead ≤ a.ahead → b.behind ≤ a.behind → Allowed b late n → Allowed a late n
  pub bounds : (least : List Least) (moment now : Clocks) (n : ℕ) → moment.clock ≤ now.clock → now.clock ≤ 2 ^ 60 → reading now n ≤ 2 ^ 60 → IsSeen least now moment n → Allowed (least_of least n) now n → Bounded moment now n
  pub allows : (early late : Clocks) (n : ℕ) → early.clock ≤ late.clock → late.clock ≤ 2 ^ 60 → reading early n ≤ reading late n → reading late n ≤ 2 ^ 60 → Bounded early late n → Allowed (numbers_of early n) late n
  pub at_once : (moment : Clocks) (n : ℕ) → Bounded moment moment n
  pub allowed_at_once : (moment : Clocks) (n : ℕ) → Allowed (numbers_of moment n) moment n

abbrev pub KeepTo : (Least → Clocks → ℕ → Type 0) → List Least → List WorldValue → Type 0
KeepTo Allowed least worlds = (index : ℕ) (world : WorldValue) → slice_get worlds index ≡ Some world → (number : ℕ) → IsEnd world.ends number → Allowed (least_of least number) world.now number

abbrev pub KeepBetween : (Clocks → Clocks → ℕ → Type 0) → List WorldValue → Type 0
KeepBetween Bounded worlds = (i j : ℕ) (early late : WorldValue) → i ≤ j → slice_get worlds i ≡ Some early → slice_get worlds j ≡ Some late → (number : ℕ) → IsEnd late.ends number → Bounded early.now late.now number

-- The least numbers allow what those of before and the numbers of each world allow, and the flag tells of the bound.
pub record Told (Allowed : Least → Clocks → ℕ → Type 0) (Bounded : Clocks → Clocks → ℕ → Type 0) (flag : WorldValue → Bool) (old : WorldValue) (worlds : List WorldValue) (last : WorldValue) : Type 0 where
  pub allows : (n : ℕ) → IsEnd last.ends n → (late : Clocks) → Allowed (least_of old.least n) late n → ((i : ℕ) (v : WorldValue) → slice_get worlds i ≡ Some v → Allowed (numbers_of v.now n) late n) → Allowed (least_of last.least n) late n
  pub told : IsTrue (flag last) ↔ (IsTrue (flag old) × KeepTo Allowed old.least worlds × KeepBetween Bounded worlds)

-- ---- the two bounds, in numbers

-- between two moments, in the numbers of the earlier
bound_ahead : (d now c read last : ℕ) → d ≤ now → now ≤ last → 1000 * read + 1001 * d ≤ 1000 * c + 1001 * now + 1000 → 1000 * read + 1001 * (last - now) ≤ 1000 * c + 1001 * (last - d) + 1000
bound_ahead d now c read last a b x = omega arith

bound_behind : (d now c read last : ℕ) → c ≤ read → read ≤ last → 999 * now + 1000 * c ≤ 999 * d + 1000 * read + 1000 → 999 * now + 1000 * (last - read) ≤ 999 * d + 1000 * (last - c) + 1000
bound_behind d now c read last a b x = omega arith

lesser_by : (x a b : ℕ) → x ≤ a + 1000 → x ≤ b + 1000 → x ≤ min a b + 1000
lesser_by x a b p q = omega arith

more_by : (x a b : ℕ) → b ≤ a → x ≤ b + 1000 → x ≤ a + 1000
more_by x a b p q = omega arith

pub drift_bound : IsBound IsAllowed IsBounded
drift_bound = record {
  of_lesser = λ a b late n x y. record { not_ahead = lesser_by (ahead late n) a.ahead b.ahead x.not_ahead y.not_ahead; not_behind = lesser_by (behind late n) a.behind b.behind x.not_behind y.not_behind };
  of_more = λ a b late n p q x. record { not_ahead = more_by (ahead late n) a.ahead b.ahead p x.not_ahead; not_behind = more_by (behind late n) a.behind b.behind q x.not_behind };
  bounds = bounded;
  allows = λ early late n a b c d k.
      record { not_ahead = bound_ahead early.clock late.clock (reading early n) (reading late n) (2 ^ 60) a b k.ahead; not_behind = bound_behind early.clock late.clock (reading early n) (reading late n) (2 ^ 60) c d k.back };
  at_once = λ moment n. record { ahead = omega arith; back = omega arith };
  allowed_at_once = λ moment n. record { not_ahead = omega arith; not_behind = omega arith };
}

pub timely_bound : IsBound IsAllowedTimely IsTimely
timely_bound = record {
  of_lesser = λ a b late n x y.
      record { not_ahead = lesser_by (ahead late n) a.ahead b.ahead x.not_ahead y.not_ahead; not_behind = λ node. lesser_by (behind late n) a.behind b.behind (x.not_behind node) (y.not_behind node) };
  of_more = λ a b late n p q x. record { not_ahead = more_by (ahead late n) a.ahead b.ahead p x.not_ahead; not_behind = λ node. more_by (behind late n) a.behind b.behind q (x.not_behind node) };
  bounds = bounded_timely;
  allows = λ early late n a b c d k.
      record { not_ahead = bound_ahead early.clock late.clock (reading early n) (reading late n) (2 ^ 60) a b k.ahead; not_behind = λ node. bound_behind early.clock late.clock (reading early n) (reading late n) (2 ^ 60) c d (k.back node) };
  at_once = λ moment n. record { ahead = omega arith; back = λ node. omega arith };
  allowed_at_once = λ moment n. record { not_ahead = omega arith; not_behind = λ node. omega arith };
}

-- ---- lists with one world more

old_at : (xs : List WorldValue) (y z : WorldValue) (i : ℕ) → slice_get xs i ≡ Some z → slice_get (xs ++ y ∷ []) i ≡ Some z
old_at [] y z i e = absurd (none-some z e)
old_at (x ∷ xs) y z zero e = e
old_at (x ∷ xs) y z (suc i) e = old_at xs y z i e

pub new_at : {X : Type 0} (xs : List X) (y : X) → slice_get (xs ++ y ∷ []) (length xs) ≡ Some y
new_at [] y = refl
new_at (x ∷ xs) y = new_at xs y

-- it is among the old ones, or is the new one, which is last
at_cases : (xs : List WorldValue) (y z : WorldValue) (i : ℕ) → slice_get (xs ++ y ∷ []) i ≡ Some z → (slice_get xs i ≡ Some z) ⊎ ((y ≡ z) × (length xs ≤ i))
at_cases [] y z zero e = inr (same_Some y z e, omega arith)
at_cases [] y z (suc i) e = absurd (none-some z e)
at_cases (x ∷ xs) y z zero e = inl e
at_cases (x ∷ xs) y z (suc i) e = elim (at_cases xs y z i e) [ inl old ↦ inl old | inr is ↦ let le = is.1 in inr (is.0, omega arith) ]

-- ---- one world more

pub traced_more : {old : WorldValue} (worlds : List WorldValue) (w v : WorldValue) → Goes w v → Traced old worlds w → Traced old (worlds ++ v ∷ []) v
traced_more {old} worlds w v goes t = record {
  read = goes.read;
  first = old_at worlds v old 0 t.first;
  same = λ i x e n. elim (at_cases worlds v x i e) [ inl o ↦ goes.same n ∙ t.same i x o n | inr is ↦ ap (λ (y : WorldValue). addr_of y.ends n) is.0 ];
  before = before;
  seen = seen;
  lower = lower;
}
  where
    here : (n : ℕ) → IsEnd v.ends n → IsEnd w.ends n
    here n end = (end.0, sym (goes.same n) ∙ end.1)

    before : (i : ℕ) (x : WorldValue) → slice_get (worlds ++ v ∷ []) i ≡ Some x → x.now.clock ≤ v.now.clock
    before i x e =
        elim (at_cases worlds v x i e) [
          | inl o ↦ let was = t.before i x o in let on = goes.clock in omega arith
          | inr is ↦ subst (λ (y : WorldValue). y.now.clock ≤ v.now.clock) is.0 (omega arith)
        ]

    seen : (i : ℕ) (x : WorldValue) → slice_get (worlds ++ v ∷ []) i ≡ Some x → (n : ℕ) → IsEnd v.ends n → IsSeen v.least v.now x.now n
    seen i x e n end =
        elim (at_cases worlds v x i e) [
          | inl o ↦ goes.seen n (here n end) x.now (t.seen i x o n (here n end))
          | inr is ↦ subst (λ (y : WorldValue). IsSeen v.least v.now y.now n) is.0 ((goes.read).seen n end)
        ]

    lower : (n : ℕ) → IsEnd v.ends n → ((least_of v.least n).ahead ≤ (least_of old.least n).ahead) × ((least_of v.least n).behind ≤ (least_of old.least n).behind)
    lower n end = let l = t.lower n (here n end) in let a = l.0 in let b = l.1 in rw (goes.least n (here n end)) (omega arith, omega arith)

-- ---- the first

only : (w v : WorldValue) (i : ℕ) → slice_get (w ∷ []) i ≡ Some v → w ≡ v
only w v zero e = same_Some w v e
only w v (suc i) e = absurd (none-some v e)

pub traced_first : (w : WorldValue) → AreRead w → Traced w (w ∷ []) w
traced_first w read = record {
  read = read;
  first = refl;
  same = λ i v e n. ap (λ (y : WorldValue). addr_of y.ends n) (only w v i e);
  before = λ i v e. subst (λ (y : WorldValue). y.now.clock ≤ w.now.clock) (only w v i e) (omega arith);
  seen = λ i v e n end. subst (λ (y : WorldValue). IsSeen w.least w.now y.now n) (only w v i e) (read.seen n end);
  lower = λ n end. (omega arith, omega arith);
}

-- ---- what a flag tells of a bound

module _ (Allowed : Least → Clocks → ℕ → Type 0) (Bounded : Clocks → Clocks → ℕ → Type 0) (flag : WorldValue → Bool) (bound : IsBound Allowed Bounded) where
  pub told_more : {old : WorldValue} (worlds : List WorldValue) (w v : WorldValue) → Goes w v → (IsTrue (flag v) ↔ (IsTrue (flag w) × ((n : ℕ) → IsEnd w.ends n → Allowed (least_of v.least n) v.now n)))
      → Traced old worlds w → Told Allowed Bounded flag old worlds w → Told Allowed Bounded flag old (worlds ++ v ∷ []) v
  told_more {old} worlds w v goes tells t was = record {
    allows = λ n end late a all.
        rw (goes.least n (here n end)) (bound.of_lesser (least_of w.least n) (numbers_of v.now n) late n (was.allows n (here n end) late a (λ i x e. all i x (old_at worlds v x i e))) (all (length worlds) v (new_at worlds v)));
    told = (
      λ on. let before = (was.told).0 (tells.0 on).0 in (before.0, to_least on before.1, between on before.2),
      λ k. tells.1 ((was.told).1 (k.0, λ i x e. k.1 i x (old_at worlds v x i e), λ i j early late le p q. k.2 i j early late le (old_at worlds v early i p) (old_at worlds v late j q)), allowed k.1 k.2),
    );
  }
    where
      here : (n : ℕ) → IsEnd v.ends n → IsEnd w.ends n
      here n end = (end.0, sym (goes.same n) ∙ end.1)

      next : Traced old (worlds ++ v ∷ []) v
      next = traced_more worlds w v goes t

      to_least : IsTrue (flag v) → KeepTo Allowed old.least worlds → KeepTo Allowed old.least (worlds ++ v ∷ [])
      to_least on before i x e =
          elim (at_cases worlds v x i e) [
            | inl o ↦ before i x o
            | inr is ↦ subst (λ (y : WorldValue). (n : ℕ) → IsEnd y.ends n → Allowed (least_of old.least n) y.now n) is.0 (λ n end. let l = next.lower n end in bound.of_more (least_of old.least n) (least_of v.least n) v.now n l.0 l.1 ((tells.0 on).1 n (here n end)))
          ]

      -- to the new world from each
      to_new : IsTrue (flag v) → (i : ℕ) (x : WorldValue) → slice_get (worlds ++ v ∷ []) i ≡ Some x → (n : ℕ) → IsEnd v.ends n → Bounded x.now v.now n
      to_new on i x e n end = bound.bounds v.least x.now v.now n (next.before i x e) (goes.read).now ((goes.read).readings n end) (next.seen i x e n end) ((tells.0 on).1 n (here n end))

      between : IsTrue (flag v) → KeepBetween Bounded worlds → KeepBetween Bounded (worlds ++ v ∷ [])
      between on before i j early late le p q =
          elim (at_cases worlds v late j q) [
            | inl there ↦ elim (at_cases worlds v early i p) [ inl first ↦ before i j early late le first there | inr is ↦ let last = is.1 in absurd (omega (arith, slice_get_within worlds j late there)) ]
            | inr is ↦ subst (λ (y : WorldValue). (n : ℕ) → IsEnd y.ends n → Bounded early.now y.now n) is.0 (to_new on i early p)
          ]

      allowed : KeepTo Allowed old.least (worlds ++ v ∷ []) → KeepBetween Bounded (worlds ++ v ∷ []) → (n : ℕ) → IsEnd w.ends n → Allowed (least_of v.least n) v.now n
      allowed to all n end =
          let at : IsEnd v.ends n = (end.0, goes.same n ∙ end.1) in
          rw (goes.least n end)
          (bound.of_lesser (least_of w.least n) (numbers_of v.now n) v.now n
          (was.allows n end v.now (to (length worlds) v (new_at worlds v) n at)
          (λ i x e.
          let lt = slice_get_within worlds i x e in
          let there = old_at worlds v x i e in
          bound.allows x.now v.now n (next.before i x there) (goes.read).now (next.seen i x there n at).read ((goes.read).readings n at) (all i (length worlds) x v (omega arith) there (new_at worlds v) n at)))
          (bound.allowed_at_once v.now n))

  pub told_first : (w : WorldValue) → (IsTrue (flag w) → (n : ℕ) → IsEnd w.ends n → Allowed (least_of w.least n) w.now n) → Told Allowed Bounded flag w (w ∷ []) w
  told_first w allowed = record {
    allows = λ n end late a all. a;
    told = (
      λ on. (
        on,
        λ i v e. subst (λ (y : WorldValue). (n : ℕ) → IsEnd y.ends n → Allowed (least_of w.least n) y.now n) (only w v i e) (allowed on),
        λ i j early late le p q n end.
            subst (λ (y : WorldValue). Bounded early.now y.now n) (only w late j q) (subst (λ (y : WorldValue). Bounded y.now w.now n) (only w early i p) (bound.at_once w.now n)),
      ),
      λ k. k.0,
    );
  }

  -- from a new world, the least numbers are those of its first moment, so that the bound between any two worlds is enough
  pub told_fresh : {config : ConfigValue} {addrs : List Addr} {old last : WorldValue} {worlds : List WorldValue} → IsFresh config addrs old → IsTrue (flag old) → Traced old worlds last → Told Allowed Bounded flag old worlds last → IsTrue (flag last) ↔ KeepBetween Bounded worlds
  told_fresh {old = old} {last} {worlds} fresh first t is = (λ on. ((is.told).0 on).2, λ all. (is.told).1 (first, λ i x e n end. to_first all i x e n end, all))
    where
      to_first : KeepBetween Bounded worlds → (i : ℕ) (x : WorldValue) → slice_get worlds i ≡ Some x → (n : ℕ) → IsEnd x.ends n → Allowed (least_of old.least n) x.now n
      to_first all i x e n end =
          let at : IsEnd last.ends n = (end.0, t.same i x e n ∙ end.1) in
          let past = t.before i x e in
          let most = (t.read).now in
          let read = (t.seen i x e n at).read in
          let reads = (t.read).readings n at in
          let clock = fresh.now in
          let reading_is = fresh.readings n in
          rw (fresh.least n (end.0, sym (t.same 0 old t.first n) ∙ t.same i x e n ∙ end.1)) (bound.allows old.now x.now n (omega arith) (omega arith) (omega arith) (omega arith) (all 0 i old x (omega arith) t.first e n end))
