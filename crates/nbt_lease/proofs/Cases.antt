-- The cases of a grant and a release: one stands, no two meet, and what they leave to others and to the requester.
use Rattle.std.proofs.Common.{◌≡◌, ◌≢◌, ℕ, ◌⊎◌, List, [], ◌∷◌, ◌++◌, refl, sym, ap, ◌∙◌, subst, inl, inr, ⊎_elim}
use Rattle.nbt_lease.proofs.Common.{cases_eq, Kind, Unique, Group, Lease, HasNone, AreGroup, AreApart, Asked, IsAllowed, free, member, owner, HasOne}
use Rattle.nbt_lease.proofs.Sound.{all_behind}

-- ---- the requester's lease, or none

pub own_or_none : (addr : ℕ) (leases : List Lease) → HasOne addr leases ⊎ HasNone addr leases
own_or_none addr [] = inr tt
own_or_none addr (x ∷ xs) =
    ⊎_elim
    (λ same. inl (record { before = []; lease = x; behind = xs; is = refl; owner_is = same }))
    (λ other.
    ⊎_elim
    (λ (own : HasOne addr xs). inl (record { before = x ∷ own.before; lease = own.lease; behind = own.behind; is = ap (λ (ys : List Lease). x ∷ ys) own.is; owner_is = own.owner_is }))
    (λ none. inr (other, none))
    (own_or_none addr xs))
    (cases_eq x.addr addr)

-- both can't be
pub not_none : (addr : ℕ) (leases before behind : List Lease) (lease : Lease) → leases ≡ before ++ lease ∷ behind → lease.addr ≡ addr → HasNone addr leases → ⊥
not_none addr leases before behind lease is own none = (all_behind (λ l. l.addr ≢ addr) before (lease ∷ behind) (subst (HasNone addr) is none)).0 own

-- Of leases of different addresses, only one is the address's.
pub one_own : (addr : ℕ) (xs ys us vs : List Lease) (l k : Lease) → AreApart (xs ++ l ∷ ys) → xs ++ l ∷ ys ≡ us ++ k ∷ vs → l.addr ≡ addr → k.addr ≡ addr → (xs ≡ us) × (l ≡ k) × (ys ≡ vs)
one_own addr [] ys [] vs l k apart e p q = (refl, cc, cc)
one_own addr [] ys (u ∷ us) vs l k apart e p q =
    let front : l ≡ u = cc in
    let rest : ys ≡ us ++ k ∷ vs = cc in
    absurd ((all_behind (λ m. m.addr ≢ l.addr) us (k ∷ vs) (subst (HasNone l.addr) rest apart.0)).0 (q ∙ sym p))
one_own addr (x ∷ xs) ys [] vs l k apart e p q =
    let front : x ≡ k = cc in
    absurd ((all_behind (λ m. m.addr ≢ x.addr) xs (l ∷ ys) apart.0).0 (p ∙ sym (ap (λ (m : Lease). m.addr) front ∙ q)))
one_own addr (x ∷ xs) ys (u ∷ us) vs l k apart e p q =
    let front : x ≡ u = cc in
    let rest : xs ++ l ∷ ys ≡ us ++ k ∷ vs = cc in
    let parts = one_own addr xs ys us vs l k apart.1 rest p q in
    let before : xs ≡ us = parts.0 in
    (cc, parts.1, parts.2)

-- ---- whether a grant is allowed

pub kind_cases : (kind : Kind) → (kind ≡ Unique) ⊎ (kind ≡ Group)
kind_cases Unique = inl refl
kind_cases Group = inr refl

pub kinds_differ : (kind : Kind) → kind ≡ Unique → kind ≡ Group → ⊥
kinds_differ kind p q = let both : Unique ≡ Group = sym p ∙ q in cc

group_or_not : (leases : List Lease) → AreGroup leases ⊎ (AreGroup leases → ⊥)
group_or_not [] = inl tt
group_or_not (x ∷ xs) =
    ⊎_elim
    (λ is_unique. inr (λ all. kinds_differ x.kind is_unique all.0))
    (λ is_group. ⊎_elim (λ all. inl (is_group, all)) (λ none. inr (λ all. none all.1)) (group_or_not xs))
    (kind_cases x.kind)

refused_group : (a : Asked) (leases : List Lease) → a.kind ≡ Group → (AreGroup leases → ⊥) → IsAllowed a leases → ⊥
refused_group a leases is_group none (free empty) = none (rw empty tt)
refused_group a leases is_group none (member all _) = none all
refused_group a leases is_group none (owner _ _ _ _ is_unique) = kinds_differ a.kind is_unique is_group

allowed_group : (a : Asked) (leases : List Lease) → a.kind ≡ Group → IsAllowed a leases ⊎ (IsAllowed a leases → ⊥)
allowed_group a leases is_group = ⊎_elim (λ all. inl (member all is_group)) (λ none. inr (λ allowed. refused_group a leases is_group none allowed)) (group_or_not leases)

refused_two : (a : Asked) (x y : Lease) (xs : List Lease) → a.kind ≡ Unique → IsAllowed a (x ∷ y ∷ xs) → ⊥
refused_two a x y xs is_unique (free empty) = cc
refused_two a x y xs is_unique (member _ is_group) = kinds_differ a.kind is_unique is_group
refused_two a x y xs is_unique (owner _ only _ _ _) = cc

refused_one : (a : Asked) (x : Lease) → a.kind ≡ Unique → (x.addr ≢ a.addr) ⊎ (x.kind ≡ Group) → IsAllowed a (x ∷ []) → ⊥
refused_one a x is_unique other (free empty) = cc
refused_one a x is_unique other (member _ is_group) = kinds_differ a.kind is_unique is_group
refused_one a x is_unique other (owner lease only own kind _) =
    let same : x ≡ lease = cc in
    ⊎_elim
    (λ apart. apart (ap (λ (l : Lease). l.addr) same ∙ own))
    (λ is_group. kinds_differ lease.kind kind (ap (λ (l : Lease). l.kind) (sym same) ∙ is_group))
    other

allowed_unique : (a : Asked) (leases : List Lease) → a.kind ≡ Unique → IsAllowed a leases ⊎ (IsAllowed a leases → ⊥)
allowed_unique a [] is_unique = inl (free refl)
allowed_unique a (x ∷ y ∷ xs) is_unique = inr (λ allowed. refused_two a x y xs is_unique allowed)
allowed_unique a (x ∷ []) is_unique =
    ⊎_elim
    (λ same. ⊎_elim (λ own. inl (owner x refl same own is_unique)) (λ other. inr (λ allowed. refused_one a x is_unique (inr other) allowed)) (kind_cases x.kind))
    (λ other. inr (λ allowed. refused_one a x is_unique (inl other) allowed))
    (cases_eq x.addr a.addr)

pub allowed_or_not : (a : Asked) (leases : List Lease) → IsAllowed a leases ⊎ (IsAllowed a leases → ⊥)
allowed_or_not a leases = ⊎_elim (allowed_unique a leases) (allowed_group a leases) (kind_cases a.kind)
