-- Looking at the ends one by one: those below a number were looked at, and the others' least numbers are as they were.
use Rattle.std.proofs.Common.{◌≡◌, ◌≢◌, ℕ, ◌+◌, ◌<◌, ◌≤◌, ◌↔◌, IsTrue, Bool, true, false, ltb, List, length, slice_set, refl, sym, ap, ◌∙◌, subst, arith, ◌⊎◌, inl, inr}
use Rattle.std.proofs.lemmas.Bool.{ltb-true, ltb-false}
use Rattle.std.proofs.lemmas.List.{get_or-set_same, get_or-set_other, length-set}
use Rattle.nbt_world.specs.declared.clocks.Clocks.{Clocks}
use Rattle.nbt_world.specs.declared.clocks.Least.{Least}
use Rattle.nbt_world.specs.Drift.{least_of, numbers_of, lesser, IsAllowed, IsAllowedTimely}

pub record Watched (old new : List Least) (clocks : Clocks) (number : ℕ) (kept : Bool) : Type 0 where
  pub whole : length new ≡ 9
  pub seen : (n : ℕ) → n < number → least_of new n ≡ lesser (least_of old n) (numbers_of clocks n)
  pub left : (n : ℕ) → number ≤ n → least_of new n ≡ least_of old n
  pub told : IsTrue kept ↔ ((n : ℕ) → n < number → IsAllowed (least_of new n) clocks n)

-- one end more
pub watched_next : {old new : List Least} {clocks : Clocks} {number : ℕ} {kept after : Bool} {v : Least} → number < 9 → v ≡ lesser (least_of new number) (numbers_of clocks number)
    → (IsTrue after ↔ (IsTrue kept × IsAllowed v clocks number)) → Watched old new clocks number kept → Watched old (slice_set new number v) clocks (number + 1) after
watched_next {old} {new} {clocks} {number} {after = after} {v} within is both was = record {
  whole = length-set new number v ∙ was.whole;
  seen = λ n below. seen_at n (below_or_at n number below);
  left = λ n from. others n (omega arith) ∙ was.left n (omega arith);
  told = (λ t. λ n below. allowed_at n t (below_or_at n number below), λ all. both.1 (was.told.1 (λ n below. subst (λ (x : Least). IsAllowed x clocks n) (others n (omega arith)) (all n (omega arith))), subst (λ (x : Least). IsAllowed x clocks number) here (all number (omega arith))));
}
  where
    d : Least
    d = record { ahead = 0; behind = 0 }

    here : least_of (slice_set new number v) number ≡ v
    here = get_or-set_same new number v d (rw was.whole within)

    others : (n : ℕ) → (n ≡ number → ⊥) → least_of (slice_set new number v) n ≡ least_of new n
    others n other = get_or-set_other new number n v d other

    below_or_at : (n m : ℕ) → n < m + 1 → (n < m) ⊎ (n ≡ m)
    below_or_at n m below = go (ltb n m) refl
      where
        go : (t : Bool) → ltb n m ≡ t → (n < m) ⊎ (n ≡ m)
        go true p = inl (ltb-true n m p)
        go false p = let from = ltb-false n m p in inr (omega arith)

    seen_at : (n : ℕ) → (n < number) ⊎ (n ≡ number) → least_of (slice_set new number v) n ≡ lesser (least_of old n) (numbers_of clocks n)
    seen_at n (inl below) = others n (omega arith) ∙ was.seen n below
    seen_at n (inr e) = subst (λ (m : ℕ). least_of (slice_set new number v) m ≡ lesser (least_of old m) (numbers_of clocks m)) (sym e) (here ∙ is ∙ ap (λ (x : Least). lesser x (numbers_of clocks number)) (was.left number (omega arith)))

    allowed_at : (n : ℕ) → IsTrue after → (n < number) ⊎ (n ≡ number) → IsAllowed (least_of (slice_set new number v) n) clocks n
    allowed_at n t (inl below) = subst (λ (x : Least). IsAllowed x clocks n) (sym (others n (omega arith))) (was.told.0 (both.0 t).0 n below)
    allowed_at n t (inr e) = subst (λ (m : ℕ). IsAllowed (least_of (slice_set new number v) m) clocks m) (sym e) (subst (λ (x : Least). IsAllowed x clocks number) (sym here) (both.0 t).1)

-- what its least numbers allow once they are set
pub allowed_there : (new : List Least) (clocks : Clocks) (number : ℕ) (v seen : Least) (result : Bool) → number < length new → seen ≡ numbers_of clocks number
    → (IsTrue result ↔ ((seen.ahead ≤ (least_of (slice_set new number v) number).ahead + 1000) × (seen.behind ≤ (least_of (slice_set new number v) number).behind + 1000)))
    → IsTrue result ↔ IsAllowed v clocks number
allowed_there new clocks number v seen result within is told = (λ t. forth (tell.0 t), λ a. tell.1 (back a))
  where
    tell : IsTrue result ↔ ((seen.ahead ≤ v.ahead + 1000) × (seen.behind ≤ v.behind + 1000))
    tell = subst (λ (x : Least). IsTrue result ↔ ((seen.ahead ≤ x.ahead + 1000) × (seen.behind ≤ x.behind + 1000))) (get_or-set_same new number v (record { ahead = 0; behind = 0 }) within) told

    forth : (seen.ahead ≤ v.ahead + 1000) × (seen.behind ≤ v.behind + 1000) → IsAllowed v clocks number
    forth b = record { not_ahead = subst (λ (x : Least). x.ahead ≤ v.ahead + 1000) is b.0; not_behind = subst (λ (x : Least). x.behind ≤ v.behind + 1000) is b.1 }

    back : IsAllowed v clocks number → (seen.ahead ≤ v.ahead + 1000) × (seen.behind ≤ v.behind + 1000)
    back a = (subst (λ (x : Least). x.ahead ≤ v.ahead + 1000) (sym is) a.not_ahead, subst (λ (x : Least). x.behind ≤ v.behind + 1000) (sym is) a.not_behind)

-- the bound is kept so far where it was before, and is by this end
pub kept_on : (kept after allows : Bool) (A : Type 0) → IsTrue allows ↔ A → ((allows ≡ false) × (after ≡ false)) ⊎ ((allows ≡ true) × (after ≡ kept)) → IsTrue after ↔ (IsTrue kept × A)
kept_on kept after allows A told (inl x) = (λ t. absurd cc, λ p. let t = told.1 p.1 in absurd cc)
kept_on kept after allows A told (inr x) = (λ t. (sym x.1 ∙ t, told.0 x.0), λ p. x.1 ∙ p.0)

-- the same of whether the ends are timely, by the least numbers as they are
pub timely_next : (least : List Least) (clocks : Clocks) (number : ℕ) (seen : Least) → seen ≡ numbers_of clocks number → (timely after allows : Bool)
    → (IsTrue allows ↔ ((seen.ahead ≤ (least_of least number).ahead + 1000) × (number ≢ 0 → seen.behind ≤ (least_of least number).behind + 1000)))
    → ((allows ≡ false) × (after ≡ false)) ⊎ ((allows ≡ true) × (after ≡ timely)) → (IsTrue timely ↔ ((n : ℕ) → n < number → IsAllowedTimely (least_of least n) clocks n))
    → IsTrue after ↔ ((n : ℕ) → n < number + 1 → IsAllowedTimely (least_of least n) clocks n)
timely_next least clocks number seen is timely after allows told goes was = (λ t n below. at n t (below_or_at n below), λ all. both.1 (was.1 (λ n below. all n (omega arith)), all number (omega arith)))
  where
    here : IsTrue allows ↔ IsAllowedTimely (least_of least number) clocks number
    here = (
      λ t. let a = told.0 t in record { not_ahead = subst (λ (x : Least). x.ahead ≤ (least_of least number).ahead + 1000) is a.0; not_behind = λ node. subst (λ (x : Least). x.behind ≤ (least_of least number).behind + 1000) is (a.1 node) },
      λ a. told.1 (subst (λ (x : Least). x.ahead ≤ (least_of least number).ahead + 1000) (sym is) a.not_ahead, λ node. subst (λ (x : Least). x.behind ≤ (least_of least number).behind + 1000) (sym is) (a.not_behind node)),
    )

    both : IsTrue after ↔ (IsTrue timely × IsAllowedTimely (least_of least number) clocks number)
    both = kept_on timely after allows (IsAllowedTimely (least_of least number) clocks number) here goes

    below_or_at : (n : ℕ) → n < number + 1 → (n < number) ⊎ (n ≡ number)
    below_or_at n below = go (ltb n number) refl
      where
        go : (t : Bool) → ltb n number ≡ t → (n < number) ⊎ (n ≡ number)
        go true p = inl (ltb-true n number p)
        go false p = let from = ltb-false n number p in inr (omega arith)

    at : (n : ℕ) → IsTrue after → (n < number) ⊎ (n ≡ number) → IsAllowedTimely (least_of least n) clocks n
    at n t (inl below) = was.0 (both.0 t).0 n below
    at n t (inr e) = subst (λ (m : ℕ). IsAllowedTimely (least_of least m) clocks m) (sym e) (both.0 t).1
