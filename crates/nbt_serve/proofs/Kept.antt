-- What is kept of the leases of a name, after a lease begins, moves or goes.
use Rattle.std.proofs.Common.{◌≡◌, ◌≢◌, ℕ, ◌<◌, ◌≤◌, Bool, true, false, not, List, [], ◌∷◌, ◌++◌, refl, sym, ap, ◌∙◌, subst, ⊎_elim, arith}
use Rattle.std.specs.Prelude.{nat_eq}
use Rattle.nbt_lease.specs.declared.lease.Lease.{Lease}
use Rattle.nbt_lease.proofs.Common.{filter, cases_Bool, cases_eq, cond-true, cond-false, eq-eqb, ne_eqb, lt-ltb, le-ltb, ltb-false, filter-append, map-append, is_live, HasNone, AreApart}
use Rattle.nbt_lease.proofs.Sound.{all_behind, all_filter, apart_push}
use Rattle.nbt_store.specs.Changes.{without, moved, with_end}

-- ---- one lease in front

kept_front : (p : Lease → Bool) (x : Lease) (xs : List Lease) → p x ≡ true → filter p (x ∷ xs) ≡ x ∷ filter p xs
kept_front p x xs is = rw is refl

left_front : (p : Lease → Bool) (x : Lease) (xs : List Lease) → p x ≡ false → filter p (x ∷ xs) ≡ filter p xs
left_front p x xs is = rw is refl

-- ---- a lease among those that live, and among all that are kept

pub record Among (now : ℕ) (all before : List Lease) (lease : Lease) (behind : List Lease) : Type 0 where
  pub front : List Lease
  pub back : List Lease
  pub is : all ≡ front ++ lease ∷ back
  pub before_is : filter (is_live now) front ≡ before
  pub behind_is : filter (is_live now) back ≡ behind
  pub lives : is_live now lease ≡ true

among_later : (now : ℕ) (x : Lease) (xs before : List Lease) (lease : Lease) (behind : List Lease) → is_live now x ≡ false → Among now xs before lease behind → Among now (x ∷ xs) before lease behind
among_later now x xs before lease behind over a = record {
  front = x ∷ a.front;
  back = a.back;
  is = ap (λ (ls : List Lease). x ∷ ls) a.is;
  before_is = left_front (is_live now) x a.front over ∙ a.before_is;
  behind_is = a.behind_is;
  lives = a.lives;
}

among_front : (now : ℕ) (x : Lease) (xs before : List Lease) (lease : Lease) (behind : List Lease) → is_live now x ≡ true → Among now xs before lease behind → Among now (x ∷ xs) (x ∷ before) lease behind
among_front now x xs before lease behind live a = record {
  front = x ∷ a.front;
  back = a.back;
  is = ap (λ (ls : List Lease). x ∷ ls) a.is;
  before_is = kept_front (is_live now) x a.front live ∙ ap (λ (ls : List Lease). x ∷ ls) a.before_is;
  behind_is = a.behind_is;
  lives = a.lives;
}

pub among : (now : ℕ) (all before : List Lease) (lease : Lease) (behind : List Lease) → filter (is_live now) all ≡ before ++ lease ∷ behind → Among now all before lease behind
among now [] [] lease behind e = absurd cc
among now [] (y ∷ ys) lease behind e = absurd cc
among now (x ∷ xs) [] lease behind e =
    ⊎_elim
    (λ live.
    let joined : x ∷ filter (is_live now) xs ≡ lease ∷ behind = sym (kept_front (is_live now) x xs live) ∙ e in
    let first : x ≡ lease = cc in
    let rest : filter (is_live now) xs ≡ behind = cc in
    record { front = []; back = xs; is = ap (λ (l : Lease). l ∷ xs) first; before_is = refl; behind_is = rest; lives = subst (λ (l : Lease). is_live now l ≡ true) first live })
    (λ over. among_later now x xs [] lease behind over (among now xs [] lease behind (sym (left_front (is_live now) x xs over) ∙ e)))
    (cases_Bool (is_live now x))
among now (x ∷ xs) (y ∷ ys) lease behind e =
    ⊎_elim
    (λ live.
    let joined : x ∷ filter (is_live now) xs ≡ y ∷ (ys ++ lease ∷ behind) = sym (kept_front (is_live now) x xs live) ∙ e in
    let first : x ≡ y = cc in
    let rest : filter (is_live now) xs ≡ ys ++ lease ∷ behind = cc in
    subst (λ (l : Lease). Among now (x ∷ xs) (l ∷ ys) lease behind) first (among_front now x xs ys lease behind live (among now xs ys lease behind rest)))
    (λ over. among_later now x xs (y ∷ ys) lease behind over (among now xs (y ∷ ys) lease behind (sym (left_front (is_live now) x xs over) ∙ e)))
    (cases_Bool (is_live now x))

-- no two of one address: no other lease is of this one's
pub apart_front : (xs : List Lease) (lease : Lease) (ys : List Lease) → AreApart (xs ++ lease ∷ ys) → HasNone lease.addr xs
apart_front [] lease ys h = tt
apart_front (x ∷ xs) lease ys h = let other : lease.addr ≢ x.addr = (all_behind (λ l. l.addr ≢ x.addr) xs (lease ∷ ys) h.0).0 in ((λ same. other (sym same)), apart_front xs lease ys h.1)

apart_back : (xs : List Lease) (lease : Lease) (ys : List Lease) → AreApart (xs ++ lease ∷ ys) → HasNone lease.addr ys
apart_back [] lease ys h = h.0
apart_back (x ∷ xs) lease ys h = apart_back xs lease ys h.1

-- ---- where no lease is of the address

pub none_without : (addr : ℕ) (xs : List Lease) → HasNone addr xs → without addr xs ≡ xs
none_without addr [] none = refl
none_without addr (x ∷ xs) none = kept_front (λ l. not (nat_eq l.addr addr)) x xs (ap not (ne_eqb x.addr addr none.0)) ∙ ap (λ (ls : List Lease). x ∷ ls) (none_without addr xs none.1)

none_moved : (addr end : ℕ) (xs : List Lease) → HasNone addr xs → with_end addr end xs ≡ xs
none_moved addr end [] none = refl
none_moved addr end (x ∷ xs) none = λ i. cond-false (nat_eq x.addr addr) (record x { end = end }) x (ne_eqb x.addr addr none.0) i ∷ none_moved addr end xs none.1 i

-- ---- without the leases of an address

pub has_none_without : (addr : ℕ) (xs : List Lease) → HasNone addr (without addr xs)
has_none_without addr [] = tt
has_none_without addr (x ∷ xs) =
    ⊎_elim
    (λ same. subst (HasNone addr) (sym (left_front (λ l. not (nat_eq l.addr addr)) x xs (ap not (eq-eqb x.addr addr same)))) (has_none_without addr xs))
    (λ other. subst (HasNone addr) (sym (kept_front (λ l. not (nat_eq l.addr addr)) x xs (ap not (ne_eqb x.addr addr other)))) (other, has_none_without addr xs))
    (cases_eq x.addr addr)

pub apart_filtered : (p : Lease → Bool) (xs : List Lease) → AreApart xs → AreApart (filter p xs)
apart_filtered p [] h = tt
apart_filtered p (x ∷ xs) h =
    ⊎_elim
    (λ kept. rw kept (all_filter (λ lease. lease.addr ≢ x.addr) p xs h.0, apart_filtered p xs h.1))
    (λ left. rw left (apart_filtered p xs h.1))
    (cases_Bool (p x))

-- what lives is as before, where none of the address lives
pub live_without : (now addr : ℕ) (xs : List Lease) → HasNone addr (filter (is_live now) xs) → filter (is_live now) (without addr xs) ≡ filter (is_live now) xs
live_without now addr [] none = refl
live_without now addr (x ∷ xs) none =
    let other_addr : Lease → Bool = λ l. not (nat_eq l.addr addr) in
    ⊎_elim
    (λ live.
    let here : HasNone addr (x ∷ filter (is_live now) xs) = subst (HasNone addr) (kept_front (is_live now) x xs live) none in
    ap (filter (is_live now)) (kept_front other_addr x xs (ap not (ne_eqb x.addr addr here.0)))
    ∙ (kept_front (is_live now) x (without addr xs) live ∙ (ap (λ (ls : List Lease). x ∷ ls) (live_without now addr xs here.1) ∙ sym (kept_front (is_live now) x xs live))))
    (λ over.
    let rest : filter (is_live now) (without addr xs) ≡ filter (is_live now) xs = live_without now addr xs (subst (HasNone addr) (left_front (is_live now) x xs over) none) in
    ⊎_elim
    (λ same. ap (filter (is_live now)) (left_front other_addr x xs (ap not (eq-eqb x.addr addr same))) ∙ (rest ∙ sym (left_front (is_live now) x xs over)))
    (λ other. ap (filter (is_live now)) (kept_front other_addr x xs (ap not (ne_eqb x.addr addr other))) ∙ (left_front (is_live now) x (without addr xs) over ∙ (rest ∙ sym (left_front (is_live now) x xs over))))
    (cases_eq x.addr addr))
    (cases_Bool (is_live now x))

-- ---- a lease begins

pub began_live : (now : ℕ) (kept : List Lease) (lease : Lease) (leases : List Lease) → filter (is_live now) kept ≡ leases → HasNone lease.addr leases → now < lease.end
    → filter (is_live now) (without lease.addr kept ++ lease ∷ []) ≡ leases ++ lease ∷ []
began_live now kept lease leases is none live =
    filter-append (is_live now) (without lease.addr kept) (lease ∷ [])
    ∙ (λ i. (live_without now lease.addr kept (subst (HasNone lease.addr) (sym is) none) ∙ is) i ++ kept_front (is_live now) lease [] (lt-ltb now lease.end live) i)

pub began_apart : (kept : List Lease) (lease : Lease) → AreApart kept → AreApart (without lease.addr kept ++ lease ∷ [])
began_apart kept lease apart = apart_push (without lease.addr kept) lease (has_none_without lease.addr kept) (apart_filtered (λ l. not (nat_eq l.addr lease.addr)) kept apart)

-- ---- a lease goes

without_one : (xs : List Lease) (lease : Lease) (ys : List Lease) → AreApart (xs ++ lease ∷ ys) → without lease.addr (xs ++ lease ∷ ys) ≡ xs ++ ys
without_one xs lease ys apart =
    let other : Lease → Bool = λ l. not (nat_eq l.addr lease.addr) in
    filter-append other xs (lease ∷ ys)
    ∙ (λ i. none_without lease.addr xs (apart_front xs lease ys apart) i ++ (left_front other lease ys (ap not (eq-eqb lease.addr lease.addr refl)) ∙ none_without lease.addr ys (apart_back xs lease ys apart)) i)

pub released_live : (now : ℕ) (kept before : List Lease) (lease : Lease) (behind : List Lease) (addr : ℕ) → AreApart kept → filter (is_live now) kept ≡ before ++ lease ∷ behind → lease.addr ≡ addr
    → filter (is_live now) (without addr kept) ≡ before ++ behind
released_live now kept before lease behind addr apart is own =
    let a : Among now kept before lease behind = among now kept before lease behind is in
    ap (λ (n : ℕ). filter (is_live now) (without n kept)) (sym own)
    ∙ (ap (λ (ls : List Lease). filter (is_live now) (without lease.addr ls)) a.is
    ∙ (ap (filter (is_live now)) (without_one a.front lease a.back (subst AreApart a.is apart))
    ∙ (filter-append (is_live now) a.front a.back ∙ (λ i. a.before_is i ++ a.behind_is i))))

-- ---- a lease moves

moved_one : (xs : List Lease) (lease : Lease) (ys : List Lease) (end : ℕ) → AreApart (xs ++ lease ∷ ys) → with_end lease.addr end (xs ++ lease ∷ ys) ≡ xs ++ record lease { end = end } ∷ ys
moved_one xs lease ys end apart =
    map-append (moved lease.addr end) xs (lease ∷ ys)
    ∙ (λ i. none_moved lease.addr end xs (apart_front xs lease ys apart) i
    ++ (cond-true (nat_eq lease.addr lease.addr) (record lease { end = end }) lease (eq-eqb lease.addr lease.addr refl) i ∷ none_moved lease.addr end ys (apart_back xs lease ys apart) i))

pub moved_live : (now : ℕ) (kept before : List Lease) (lease : Lease) (behind : List Lease) (addr end : ℕ) → AreApart kept → filter (is_live now) kept ≡ before ++ lease ∷ behind → lease.addr ≡ addr → now < end
    → filter (is_live now) (with_end addr end kept) ≡ before ++ record lease { end = end } ∷ behind
moved_live now kept before lease behind addr end apart is own live =
    let a : Among now kept before lease behind = among now kept before lease behind is in
    let new : Lease = record lease { end = end } in
    ap (λ (n : ℕ). filter (is_live now) (with_end n end kept)) (sym own)
    ∙ (ap (λ (ls : List Lease). filter (is_live now) (with_end lease.addr end ls)) a.is
    ∙ (ap (filter (is_live now)) (moved_one a.front lease a.back end (subst AreApart a.is apart))
    ∙ (filter-append (is_live now) a.front (new ∷ a.back) ∙ (λ i. a.before_is i ++ (kept_front (is_live now) new a.back (lt-ltb now end live) ∙ ap (λ (ls : List Lease). new ∷ ls) a.behind_is) i))))

moved_none : (addr end : ℕ) (x : Lease) (xs : List Lease) → HasNone x.addr xs → HasNone (moved addr end x).addr (with_end addr end xs)
moved_none addr end x xs none = subst (λ (n : ℕ). HasNone n (with_end addr end xs)) (sym (same_addr addr end x)) (others addr end x.addr xs none)
  where
    same_addr : (addr end : ℕ) (x : Lease) → (moved addr end x).addr ≡ x.addr
    same_addr addr end x = ⊎_elim (λ is. ap (λ (l : Lease). l.addr) (cond-true (nat_eq x.addr addr) (record x { end = end }) x is)) (λ is. ap (λ (l : Lease). l.addr) (cond-false (nat_eq x.addr addr) (record x { end = end }) x is)) (cases_Bool (nat_eq x.addr addr))

    others : (addr end n : ℕ) (xs : List Lease) → HasNone n xs → HasNone n (with_end addr end xs)
    others addr end n [] h = tt
    others addr end n (y ∷ ys) h = ((λ same. h.0 (sym (same_addr addr end y) ∙ same)), others addr end n ys h.1)

pub moved_apart : (addr end : ℕ) (kept : List Lease) → AreApart kept → AreApart (with_end addr end kept)
moved_apart addr end [] apart = tt
moved_apart addr end (x ∷ xs) apart = (moved_none addr end x xs apart.0, moved_apart addr end xs apart.1)

-- ---- a later time

over_both : (early late : ℕ) (lease : Lease) → early ≤ late → is_live early lease ≡ false → is_live late lease ≡ false
over_both early late lease onward over = le-ltb late lease.end (omega (arith, ltb-false early lease.end over))

pub live_later : (early late : ℕ) (kept : List Lease) → early ≤ late → filter (is_live late) kept ≡ filter (is_live late) (filter (is_live early) kept)
live_later early late [] onward = refl
live_later early late (x ∷ xs) onward =
    let rest : filter (is_live late) xs ≡ filter (is_live late) (filter (is_live early) xs) = live_later early late xs onward in
    ⊎_elim
    (λ live.
    ⊎_elim
    (λ still. kept_front (is_live late) x xs still ∙ (ap (λ (ls : List Lease). x ∷ ls) rest ∙ (sym (kept_front (is_live late) x (filter (is_live early) xs) still) ∙ ap (filter (is_live late)) (sym (kept_front (is_live early) x xs live)))))
    (λ over. left_front (is_live late) x xs over ∙ (rest ∙ (sym (left_front (is_live late) x (filter (is_live early) xs) over) ∙ ap (filter (is_live late)) (sym (kept_front (is_live early) x xs live)))))
    (cases_Bool (is_live late x)))
    (λ over. left_front (is_live late) x xs (over_both early late x onward over) ∙ (rest ∙ ap (filter (is_live late)) (sym (left_front (is_live early) x xs over))))
    (cases_Bool (is_live early x))
