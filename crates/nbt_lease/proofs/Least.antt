-- The first expiry of leases: found of a list, and kept as members come, go and move.
use Rattle.std.proofs.Common.{◌≡◌, ◌≢◌, ℕ, suc, ◌<◌, ◌≤◌, ◌+◌, List, [], ◌∷◌, ◌++◌, Option, Some, None, unwrap_or, refl, sym, ap, ◌∙◌, subst, length, get_or, set, take, drop, ⊎_elim, arith}
use Rattle.nbt_lease.proofs.Common.{cases_lt, take-append-drop, drop_more, take_more, length-take-le, All-cons, All-nil, All-head, All-tail, All-weaker, set-append_seam, Any, All, min, filter, Lease, is_live, AreLive, IsLeastEnd}
use Rattle.nbt_lease.proofs.Flat.{all_live}

-- the earlier of two expiries, if there are two
abbrev pub earlier : Option ℕ → Option ℕ → Option ℕ
earlier None other = other
earlier (Some end) None = Some end
earlier (Some end) (Some other) = Some (min end other)

abbrev pub least_of : List Lease → Option ℕ
least_of [] = None
least_of (lease ∷ rest) = earlier (Some lease.end) (least_of rest)

-- ---- it is the least end

comes_first : (lease : Lease) (rest : List Lease) (least : ℕ) → lease.end ≤ least → IsLeastEnd rest (Some least) → IsLeastEnd (lease ∷ rest) (Some lease.end)
comes_first lease rest least early is =
    let others : All (λ (l : Lease). lease.end ≤ l.end) rest = All-weaker (λ (l : Lease). least ≤ l.end) (λ (l : Lease). lease.end ≤ l.end) (λ l later. omega arith) rest is.1 in
    ((0, lease, omega arith, refl, refl), All-cons (λ (l : Lease). lease.end ≤ l.end) lease rest (omega arith) others)

stays_first : (lease : Lease) (rest : List Lease) (least : ℕ) → least ≤ lease.end → IsLeastEnd rest (Some least) → IsLeastEnd (lease ∷ rest) (Some least)
stays_first lease rest least late is =
    let one = is.0 in
    ((suc one.0, one.1, omega (arith, one.2), one.3, one.4), All-cons (λ (l : Lease). least ≤ l.end) lease rest late is.1)

with_first : (lease : Lease) (rest : List Lease) (least : Option ℕ) → IsLeastEnd rest least → IsLeastEnd (lease ∷ rest) (earlier (Some lease.end) least)
with_first lease rest None none =
    rw none ((0, lease, omega arith, refl, refl), All-cons (λ (l : Lease). lease.end ≤ l.end) lease [] (omega arith) (All-nil (λ (l : Lease). lease.end ≤ l.end)))
with_first lease rest (Some least) is = ⊎_elim
    (λ (early : lease.end < least). subst (λ (e : ℕ). IsLeastEnd (lease ∷ rest) (Some e)) (omega arith) (comes_first lease rest least (omega arith) is))
    (λ (late : least ≤ lease.end). subst (λ (e : ℕ). IsLeastEnd (lease ∷ rest) (Some e)) (omega arith) (stays_first lease rest least late is))
    (cases_lt lease.end least)

pub least_of_is : (leases : List Lease) → IsLeastEnd leases (least_of leases)
least_of_is [] = refl
least_of_is (lease ∷ rest) = with_first lease rest (least_of rest) (least_of_is rest)

-- ---- there is one

attained : (leases : List Lease) (least bound : ℕ) → Any (λ lease. lease.end ≡ least) leases → All (λ lease. bound ≤ lease.end) leases → bound ≤ least
attained leases least bound some all =
    let late : bound ≤ some.1.end = subst (λ (l : Lease). bound ≤ l.end) some.3 (all some.0 some.1 some.2) in
    omega (arith, late, some.4)

not_empty : (leases : List Lease) (end : ℕ) → leases ≡ [] → IsLeastEnd leases (Some end) → ⊥
not_empty leases end empty is = omega (arith, is.0.2, ap length empty)

pub one_least : (leases : List Lease) (a b : Option ℕ) → IsLeastEnd leases a → IsLeastEnd leases b → a ≡ b
one_least leases None None a b = refl
one_least leases None (Some end) a b = absurd (not_empty leases end a b)
one_least leases (Some end) None a b = absurd (not_empty leases end b a)
one_least leases (Some end) (Some other) a b = ap Some (omega (arith, attained leases end other a.0 b.1, attained leases other end b.0 a.1))

-- ---- as members come, go and move

earlier_grouped : (a b c : Option ℕ) → earlier (earlier a b) c ≡ earlier a (earlier b c)
earlier_grouped None b c = refl
earlier_grouped (Some a) None c = refl
earlier_grouped (Some a) (Some b) None = refl
earlier_grouped (Some a) (Some b) (Some c) = ap Some (omega arith)

joined : (before behind : List Lease) → least_of (before ++ behind) ≡ earlier (least_of before) (least_of behind)
joined [] behind = refl
joined (lease ∷ before) behind = ap (earlier (Some lease.end)) (joined before behind) ∙ sym (earlier_grouped (Some lease.end) (least_of before) (least_of behind))

-- the expiry of one more
further : (least : Option ℕ) (end : ℕ) → earlier least (Some end) ≡ Some (min (unwrap_or least end) end)
further None end = ap Some (omega arith)
further (Some least) end = refl

pub one_more : (leases : List Lease) (lease : Lease) (least : Option ℕ) → IsLeastEnd leases least → IsLeastEnd (leases ++ lease ∷ []) (Some (min (unwrap_or least lease.end) lease.end))
one_more leases lease least is =
    subst (IsLeastEnd (leases ++ lease ∷ []))
    (joined leases (lease ∷ []) ∙ (ap (λ (o : Option ℕ). earlier o (Some lease.end)) (one_least leases _ _ (least_of_is leases) is) ∙ further least lease.end))
    (least_of_is (leases ++ lease ∷ []))

-- without an expiry that isn't the first, it stays
others : (before : Option ℕ) (gone : ℕ) (behind : Option ℕ) → earlier before (earlier (Some gone) behind) ≢ Some gone → earlier before behind ≡ earlier before (earlier (Some gone) behind)
others None gone None other = absurd (other refl)
others None gone (Some behind) other = ap Some (omega (arith, λ (same : min gone behind ≡ gone). other (ap Some same)))
others (Some before) gone None other = ap Some (omega (arith, λ (same : min before gone ≡ gone). other (ap Some same)))
others (Some before) gone (Some behind) other = ap Some (omega (arith, λ (same : min before (min gone behind) ≡ gone). other (ap Some same)))

pub one_fewer : (before behind : List Lease) (lease : Lease) (least : Option ℕ) → IsLeastEnd (before ++ lease ∷ behind) least → least ≢ Some lease.end → IsLeastEnd (before ++ behind) least
one_fewer before behind lease least is other =
    let found : least ≡ earlier (least_of before) (earlier (Some lease.end) (least_of behind)) = one_least (before ++ lease ∷ behind) _ _ is (least_of_is (before ++ lease ∷ behind)) ∙ joined before (lease ∷ behind) in
    subst (IsLeastEnd (before ++ behind))
    (joined before behind ∙ (others (least_of before) lease.end (least_of behind) (λ same. other (found ∙ same)) ∙ sym found))
    (least_of_is (before ++ behind))

-- nor does it matter where that one moves to
moved : (before : Option ℕ) (gone end : ℕ) (behind : Option ℕ) → Some (min (unwrap_or (earlier before (earlier (Some gone) behind)) end) end) ≢ Some gone
    → earlier before (earlier (Some end) behind) ≡ Some (min (unwrap_or (earlier before (earlier (Some gone) behind)) end) end)
moved None gone end None other = ap Some (omega (arith, λ (same : min gone end ≡ gone). other (ap Some same)))
moved None gone end (Some behind) other = ap Some (omega (arith, λ (same : min (min gone behind) end ≡ gone). other (ap Some same)))
moved (Some before) gone end None other = ap Some (omega (arith, λ (same : min (min before gone) end ≡ gone). other (ap Some same)))
moved (Some before) gone end (Some behind) other = ap Some (omega (arith, λ (same : min (min before (min gone behind)) end ≡ gone). other (ap Some same)))

pub one_moved : (before behind : List Lease) (lease : Lease) (end : ℕ) (least : Option ℕ) → IsLeastEnd (before ++ lease ∷ behind) least → Some (min (unwrap_or least end) end) ≢ Some lease.end
    → IsLeastEnd (before ++ record lease { end = end } ∷ behind) (Some (min (unwrap_or least end) end))
one_moved before behind lease end least is other =
    let found : least ≡ earlier (least_of before) (earlier (Some lease.end) (least_of behind)) = one_least (before ++ lease ∷ behind) _ _ is (least_of_is (before ++ lease ∷ behind)) ∙ joined before (lease ∷ behind) in
    subst (IsLeastEnd (before ++ record lease { end = end } ∷ behind))
    (joined before (record lease { end = end } ∷ behind)
    ∙ (moved (least_of before) lease.end end (least_of behind) (subst (λ (o : Option ℕ). Some (min (unwrap_or o end) end) ≢ Some lease.end) found other)
    ∙ ap (λ (o : Option ℕ). Some (min (unwrap_or o end) end)) (sym found)))
    (least_of_is (before ++ record lease { end = end } ∷ behind))

-- ---- the same of the lease at a place

parted : (leases : List Lease) (i : ℕ) (lease : Lease) → i < length leases → lease ≡ get_or leases i lease → leases ≡ take i leases ++ lease ∷ drop (i + 1) leases
parted leases i lease within at =
    sym (take-append-drop i leases) ∙ (ap (λ (ls : List Lease). take i leases ++ ls) (drop_more leases i lease within) ∙ ap (λ (l : Lease). take i leases ++ l ∷ drop (i + 1) leases) (sym at))

pub one_taken : (leases : List Lease) (i : ℕ) (lease : Lease) (least : Option ℕ) → i < length leases → lease ≡ get_or leases i lease → IsLeastEnd leases least → least ≢ Some lease.end
    → IsLeastEnd (take i leases ++ drop (i + 1) leases) least
one_taken leases i lease least within at is other =
    one_fewer (take i leases) (drop (i + 1) leases) lease least (subst (λ (ls : List Lease). IsLeastEnd ls least) (parted leases i lease within at) is) other

set_at : (leases : List Lease) (i : ℕ) (lease new : Lease) → i < length leases → lease ≡ get_or leases i lease → set leases i new ≡ take i leases ++ new ∷ drop (i + 1) leases
set_at leases i lease new within at =
    ap (λ (ls : List Lease). set ls i new) (parted leases i lease within at)
    ∙ (ap (λ (n : ℕ). set (take i leases ++ lease ∷ drop (i + 1) leases) n new) (sym (length-take-le i leases (omega (arith, within))))
    ∙ set-append_seam (take i leases) lease (drop (i + 1) leases) new)

pub one_set : (leases : List Lease) (i : ℕ) (lease : Lease) (end : ℕ) (least : Option ℕ) → i < length leases → lease ≡ get_or leases i lease → IsLeastEnd leases least → Some (min (unwrap_or least end) end) ≢ Some lease.end
    → IsLeastEnd (set leases i (record lease { end = end })) (Some (min (unwrap_or least end) end))
one_set leases i lease end least within at is other =
    subst (λ (ls : List Lease). IsLeastEnd ls (Some (min (unwrap_or least end) end))) (sym (set_at leases i lease (record lease { end = end }) within at))
    (one_moved (take i leases) (drop (i + 1) leases) lease end least (subst (λ (ls : List Lease). IsLeastEnd ls least) (parted leases i lease within at) is) other)

-- the leases before a place, and one more
pub one_on : (leases : List Lease) (i : ℕ) (d : Lease) (least : Option ℕ) → i < length leases → IsLeastEnd (take i leases) least
    → IsLeastEnd (take (i + 1) leases) (Some (min (unwrap_or least (get_or leases i d).end) (get_or leases i d).end))
one_on leases i d least within is =
    subst (λ (ls : List Lease). IsLeastEnd ls (Some (min (unwrap_or least (get_or leases i d).end) (get_or leases i d).end))) (sym (take_more leases i d within))
    (one_more (take i leases) (get_or leases i d) least is)

-- ---- where none is over

pub none_over : (moment end : ℕ) (leases : List Lease) → moment < end → All (λ lease. end ≤ lease.end) leases → AreLive moment leases
none_over moment end [] live all = tt
none_over moment end (lease ∷ rest) live all =
    (omega (arith, live, All-head (λ (l : Lease). end ≤ l.end) lease rest all), none_over moment end rest live (All-tail (λ (l : Lease). end ≤ l.end) lease rest all))

-- then those that live are all
pub least_of_live : (moment end : ℕ) (leases : List Lease) → moment < end → IsLeastEnd leases (Some end) → IsLeastEnd (filter (is_live moment) leases) (Some end)
least_of_live moment end leases live is = subst (λ (ls : List Lease). IsLeastEnd ls (Some end)) (sym (all_live moment leases (none_over moment end leases live is.1))) is
