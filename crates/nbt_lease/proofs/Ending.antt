-- Which expiries a list of leases has, and what a change of one lease makes of them.
use Rattle.std.proofs.Common.{◌≡◌, ◌==◌, ◌≢◌, ℕ, ◌+◌, ◌<◌, length, take, drop, get_or, Bool, true, false, ◌&&◌, ◌||◌, cond, List, [], ◌∷◌, ◌++◌, refl, sym, ap, ◌∙◌, subst, arith}
use Rattle.nbt_lease.proofs.Common.{AllByRecursion, false_from_ne_true, ne_eqb, and_parts, or_right, drop_more, take-append-drop, length-take-le, list_any-append, Lease, HasNone, AreApart, has_end, AreLive, IsMember, eqb-true, eq-eqb}
use Rattle.nbt_lease.proofs.Sound.{all_behind}

abbrev pub ends_so : ℕ → ℕ → Lease → Bool
ends_so end addr lease = (lease.addr == addr) && (lease.end == end)

pub ends-append : (end addr : ℕ) (xs ys : List Lease) → has_end end addr (xs ++ ys) ≡ (has_end end addr xs || has_end end addr ys)
ends-append end addr xs ys = list_any-append (ends_so end addr) xs ys

pub no_end : (end addr : ℕ) (leases : List Lease) → HasNone addr leases → has_end end addr leases ≡ false
no_end end addr [] none = refl
no_end end addr (x ∷ xs) none = rw (ne_eqb x.addr addr none.0) (no_end end addr xs none.1)

-- ---- no other lease has the address

pub none_beside : (before behind : List Lease) (lease : Lease) → AreApart (before ++ lease ∷ behind) → HasNone lease.addr (before ++ behind)
none_beside [] behind lease apart = apart.0
none_beside (x ∷ xs) behind lease apart =
    let rest : AllByRecursion (λ l. l.addr ≢ x.addr) (lease ∷ behind) = all_behind (λ l. l.addr ≢ x.addr) xs (lease ∷ behind) apart.0 in
    ((λ same. rest.0 (sym same)), none_beside xs behind lease apart.1)

-- ---- a lease that goes last

pushed_bool : (x t : Bool) → cond t true x ≡ (x || (t || false))
pushed_bool true true = refl
pushed_bool true false = refl
pushed_bool false true = refl
pushed_bool false false = refl

pub ends-push : (end addr : ℕ) (leases : List Lease) (lease : Lease) → cond (ends_so end addr lease) true (has_end end addr leases) ≡ has_end end addr (leases ++ lease ∷ [])
ends-push end addr leases lease = pushed_bool (has_end end addr leases) (ends_so end addr lease) ∙ sym (ends-append end addr leases (lease ∷ []))

-- ---- a lease that goes

none_of : (end addr : ℕ) (before behind : List Lease) (lease : Lease) → AreApart (before ++ lease ∷ behind) → ends_so end addr lease ≡ true → has_end end addr (before ++ behind) ≡ false
none_of end addr before behind lease apart so =
    let parts = and_parts (lease.addr == addr) (lease.end == end) so in
    no_end end addr (before ++ behind) (subst (λ (n : ℕ). HasNone n (before ++ behind)) (eqb-true lease.addr addr parts.0) (none_beside before behind lease apart))

gone_bool : (x y t : Bool) → (t ≡ true → (x || y) ≡ false) → cond t false (x || (t || y)) ≡ (x || y)
gone_bool x y true none = sym (none refl)
gone_bool x y false none = refl

pub ends-without : (end addr : ℕ) (before behind : List Lease) (lease : Lease) → AreApart (before ++ lease ∷ behind)
    → cond (ends_so end addr lease) false (has_end end addr (before ++ lease ∷ behind)) ≡ has_end end addr (before ++ behind)
ends-without end addr before behind lease apart =
    let x : Bool = has_end end addr before in
    let y : Bool = has_end end addr behind in
    ap (cond (ends_so end addr lease) false) (ends-append end addr before (lease ∷ behind))
    ∙ (gone_bool x y (ends_so end addr lease) (λ so. sym (ends-append end addr before behind) ∙ none_of end addr before behind lease apart so)
    ∙ sym (ends-append end addr before behind))

-- ---- a lease that gets another end

renewed_bool : (x y t u : Bool) → (t ≡ true → ((x || y) ≡ false) × (u ≡ false)) → cond t false (cond u true (x || (t || y))) ≡ (x || (u || y))
renewed_bool true y true u none = let e = (none refl).0 in absurd cc
renewed_bool false true true u none = let e = (none refl).0 in absurd cc
renewed_bool false false true true none = let e = (none refl).1 in absurd cc
renewed_bool false false true false none = refl
renewed_bool true y false true none = refl
renewed_bool false y false true none = refl
renewed_bool x y false false none = refl

pub ends-renewed : (end addr new : ℕ) (before behind : List Lease) (lease : Lease) → AreApart (before ++ lease ∷ behind) → new ≢ lease.end
    → cond (ends_so end addr lease) false (cond (ends_so end addr (record lease { end = new })) true (has_end end addr (before ++ lease ∷ behind))) ≡ has_end end addr (before ++ record lease { end = new } ∷ behind)
ends-renewed end addr new before behind lease apart other =
    let x : Bool = has_end end addr before in
    let y : Bool = has_end end addr behind in
    let t : Bool = ends_so end addr lease in
    let u : Bool = ends_so end addr (record lease { end = new }) in
    ap (λ (b : Bool). cond t false (cond u true b)) (ends-append end addr before (lease ∷ behind))
    ∙ (renewed_bool x y t u (λ so. (
      sym (ends-append end addr before behind) ∙ none_of end addr before behind lease apart so,
      false_from_ne_true u (λ too. other (
          let old = and_parts (lease.addr == addr) (lease.end == end) so in
          let renewed = and_parts (lease.addr == addr) (new == end) too in
          eqb-true new end renewed.1 ∙ sym (eqb-true lease.end end old.1))),
    ))
    ∙ sym (ends-append end addr before (record lease { end = new } ∷ behind)))

-- ---- none is over

pub live_from : (now : ℕ) (leases : List Lease) → ((end addr : ℕ) → has_end end addr leases ≡ true → now < end) → AreLive now leases
live_from now [] h = tt
live_from now (x ∷ xs) h = (
  h x.end x.addr (rw (eq-eqb x.addr x.addr refl, eq-eqb x.end x.end refl) refl),
  live_from now xs (λ end addr there. h end addr (or_right (ends_so end addr x) (has_end end addr xs) there)),
)

-- ---- a place in a list

pub found_at : (addr i : ℕ) (leases : List Lease) (d : Lease) → i < length leases → (get_or leases i d).addr ≡ addr → (before : List Lease) × (lease : Lease) × (behind : List Lease) × IsMember addr leases before lease behind × (length before ≡ i)
found_at addr i leases d within own = (
  take i leases,
  get_or leases i d,
  drop (i + 1) leases,
  record { is = sym (take-append-drop i leases) ∙ ap (λ (ls : List Lease). take i leases ++ ls) (drop_more leases i d within); owner_is = own },
  length-take-le i leases (omega (arith, within)),
)
