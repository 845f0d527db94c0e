-- Leases stay sound: later, and after each case of a grant and a release.
use Rattle.std.proofs.Common.{◌≡◌, ◌≢◌, ℕ, zero, suc, ◌≤◌, Bool, List, [], ◌∷◌, ◌++◌, Result, refl, sym, ap, ◌∙◌, subst, ⊎_elim, arith}
use Rattle.nbt_lease.proofs.Common.{AllByRecursion, filter, cases_Bool, cond_both, length-filter, count_by-le-length, length-append, NameValue, same_name, Kind, Unique, Group, Lease, Grant, Released, GrantFault, ConfigValue, granted, Rows, Leases, TableValue, is_live, leases_at, live_count, at_name, HasNone, AreApart, AreOneKind, latest_end, AreSound, IsSound, group, unique, Asked, IsAllowed, free, member, owner, GrantCase, renews, begins, Grants, end_of, renewed, begun, ReleaseCase, gone, Releases, recursion_from_All, All-append, All-from_recursion, All-filter}
use Rattle.nbt_lease.proofs.Rows.{later_is, none_live}

-- ---- what holds of each lease, in parts of a list

pub all_front : (P : Lease → Type 0) (xs ys : List Lease) → AllByRecursion P (xs ++ ys) → AllByRecursion P xs
all_front P [] ys h = tt
all_front P (x ∷ xs) ys h = (h.0, all_front P xs ys h.1)

pub all_behind : (P : Lease → Type 0) (xs ys : List Lease) → AllByRecursion P (xs ++ ys) → AllByRecursion P ys
all_behind P [] ys h = h
all_behind P (x ∷ xs) ys h = all_behind P xs ys h.1

pub all_joined : (P : Lease → Type 0) (xs ys : List Lease) → AllByRecursion P xs → AllByRecursion P ys → AllByRecursion P (xs ++ ys)
all_joined P xs ys h k = recursion_from_All P (xs ++ ys) (All-append P xs ys (All-from_recursion P xs h) (All-from_recursion P ys k))

pub all_filter : (P : Lease → Type 0) (p : Lease → Bool) (xs : List Lease) → AllByRecursion P xs → AllByRecursion P (filter p xs)
all_filter P p xs h = recursion_from_All P (filter p xs) (All-filter p P xs (All-from_recursion P xs h))

-- another lease in one's place
pub all_replaced : (P : Lease → Type 0) (xs ys : List Lease) (old new : Lease) → (P old → P new) → AllByRecursion P (xs ++ old ∷ ys) → AllByRecursion P (xs ++ new ∷ ys)
all_replaced P xs ys old new change h =
    let behind : AllByRecursion P (old ∷ ys) = all_behind P xs (old ∷ ys) h in
    all_joined P xs (new ∷ ys) (all_front P xs (old ∷ ys) h) (change behind.0, behind.1)

-- one lease less
pub all_without : (P : Lease → Type 0) (xs ys : List Lease) (old : Lease) → AllByRecursion P (xs ++ old ∷ ys) → AllByRecursion P (xs ++ ys)
all_without P xs ys old h =
    let behind : AllByRecursion P (old ∷ ys) = all_behind P xs (old ∷ ys) h in
    all_joined P xs ys (all_front P xs (old ∷ ys) h) behind.1

-- ---- no two of one address

apart_filter : (p : Lease → Bool) (xs : List Lease) → AreApart xs → AreApart (filter p xs)
apart_filter p [] h = tt
apart_filter p (x ∷ xs) h =
    ⊎_elim
    (λ kept. rw kept (all_filter (λ lease. lease.addr ≢ x.addr) p xs h.0, apart_filter p xs h.1))
    (λ left. rw left (apart_filter p xs h.1))
    (cases_Bool (p x))

pub apart_replaced : (xs ys : List Lease) (old new : Lease) → new.addr ≡ old.addr → AreApart (xs ++ old ∷ ys) → AreApart (xs ++ new ∷ ys)
apart_replaced [] ys old new same h = (subst (λ (addr : ℕ). HasNone addr ys) (sym same) h.0, h.1)
apart_replaced (x ∷ xs) ys old new same h =
    (all_replaced (λ lease. lease.addr ≢ x.addr) xs ys old new (λ other equal. other (sym same ∙ equal)) h.0, apart_replaced xs ys old new same h.1)

pub apart_without : (xs ys : List Lease) (old : Lease) → AreApart (xs ++ old ∷ ys) → AreApart (xs ++ ys)
apart_without [] ys old h = h.1
apart_without (x ∷ xs) ys old h = (all_without (λ lease. lease.addr ≢ x.addr) xs ys old h.0, apart_without xs ys old h.1)

pub apart_push : (xs : List Lease) (new : Lease) → HasNone new.addr xs → AreApart xs → AreApart (xs ++ new ∷ [])
apart_push [] new none h = (tt, tt)
apart_push (x ∷ xs) new none h =
    (all_joined (λ lease. lease.addr ≢ x.addr) xs (new ∷ []) h.0 ((λ equal. none.0 (sym equal)), tt), apart_push xs new none.1 h.1)

-- ---- all of a group, or one unique

-- a list of one lease has nothing before or after it
pub alone : (xs ys : List Lease) (old lease : Lease) → xs ++ old ∷ ys ≡ lease ∷ [] → (xs ≡ []) × (old ≡ lease) × (ys ≡ [])
alone [] ys old lease e = (refl, cc, cc)
alone (x ∷ []) ys old lease e = absurd cc
alone (x ∷ z ∷ xs) ys old lease e = absurd cc

kind_replaced : (xs ys : List Lease) (old new : Lease) → new.kind ≡ old.kind → AreOneKind (xs ++ old ∷ ys) → AreOneKind (xs ++ new ∷ ys)
kind_replaced xs ys old new same (group all) = group (all_replaced (λ lease. lease.kind ≡ Group) xs ys old new (λ is_group. same ∙ is_group) all)
kind_replaced xs ys old new same (unique lease only is_unique) =
    let parts = alone xs ys old lease only in
    unique new (rw (parts.0, parts.2) refl) (same ∙ (ap (λ (l : Lease). l.kind) parts.1 ∙ is_unique))

kind_without : (xs ys : List Lease) (old : Lease) → AreOneKind (xs ++ old ∷ ys) → AreOneKind (xs ++ ys)
kind_without xs ys old (group all) = group (all_without (λ lease. lease.kind ≡ Group) xs ys old all)
kind_without xs ys old (unique lease only is_unique) =
    let parts = alone xs ys old lease only in
    rw (parts.0, parts.2) (group tt)

kind_filter : (p : Lease → Bool) (xs : List Lease) → AreOneKind xs → AreOneKind (filter p xs)
kind_filter p xs (group all) = group (all_filter (λ lease. lease.kind ≡ Group) p xs all)
kind_filter p xs (unique lease only is_unique) =
    rw only
    (⊎_elim
    (λ kept. rw kept (unique lease refl is_unique))
    (λ left. rw left (group tt))
    (cases_Bool (p lease)))

by_kind : (lease : Lease) (kind : Kind) → lease.kind ≡ kind → AreOneKind (lease ∷ [])
by_kind lease Unique e = unique lease refl e
by_kind lease Group e = group (e, tt)

-- a lease may begin beside these
kind_push : (config : ConfigValue) (now : ℕ) (a : Asked) (leases : List Lease) → IsAllowed a leases → HasNone a.addr leases → AreOneKind (leases ++ begun config now a ∷ [])
kind_push config now a leases (free none) _ = rw none (by_kind (begun config now a) a.kind refl)
kind_push config now a leases (member all is_group) _ = group (all_joined (λ lease. lease.kind ≡ Group) leases (begun config now a ∷ []) all (is_group, tt))
kind_push config now a leases (owner lease only own _ _) none = absurd ((subst (HasNone a.addr) only none).0 own)

-- ---- none ends too late

timely_later : (early late : ℕ) (xs : List Lease) → early ≤ late → AllByRecursion (λ lease. lease.end ≤ early) xs → AllByRecursion (λ lease. lease.end ≤ late) xs
timely_later early late [] onward h = tt
timely_later early late (x ∷ xs) onward h = (omega (arith, h.0), timely_later early late xs onward h.1)

granted-most : (longest ttl : ℕ) → granted longest ttl ≤ longest
granted-most longest zero = omega arith
granted-most longest (suc n) = omega arith

end_in_time : (config : ConfigValue) (now : ℕ) (a : Asked) → end_of config now a ≤ latest_end config now
end_in_time config now a = omega (arith, granted-most config.longest a.ttl)

-- ---- the whole

sound_filter : (latest : ℕ) (p : Lease → Bool) (xs : List Lease) → AreSound latest xs → AreSound latest (filter p xs)
sound_filter latest p xs h = record {
  apart = apart_filter p xs h.apart;
  one_kind = kind_filter p xs h.one_kind;
  most = omega (arith, length-filter p xs, count_by-le-length p xs, h.most);
  in_time = all_filter (λ lease. lease.end ≤ latest) p xs h.in_time;
}

sound_onward : (early late : ℕ) (xs : List Lease) → early ≤ late → AreSound early xs → AreSound late xs
sound_onward early late xs onward h = record { apart = h.apart; one_kind = h.one_kind; most = h.most; in_time = timely_later early late xs onward h.in_time }

pub sound_later : (config : ConfigValue) (early late : ℕ) (rows : Rows) → early ≤ late → IsSound config early (leases_at early rows) → IsSound config late (leases_at late rows)
sound_later config early late rows onward sound name =
    subst (AreSound (latest_end config late)) (sym (later_is early late rows name onward))
    (sound_filter (latest_end config late) (is_live late) (leases_at early rows name) (sound_onward (latest_end config early) (latest_end config late) (leases_at early rows name) (omega arith) (sound name)))

pub sound_after_grant : (config : ConfigValue) (now count : ℕ) (a : Asked) (leases after : List Lease) (result : Result Grant GrantFault) → AreSound (latest_end config now) leases → GrantCase config now count a leases result after → AreSound (latest_end config now) after
sound_after_grant config now count a leases after result h (renews allowed before behind lease is own) =
    let new : Lease = renewed config now a lease in
    let old : AreSound (latest_end config now) (before ++ lease ∷ behind) = subst (AreSound (latest_end config now)) is h in
    record {
      apart = apart_replaced before behind lease new refl old.apart;
      one_kind = kind_replaced before behind lease new refl old.one_kind;
      most = omega (arith, length-append before (lease ∷ behind), length-append before (new ∷ behind), old.most);
      in_time = all_replaced (λ l. l.end ≤ latest_end config now) before behind lease new (λ h. omega (arith, end_in_time config now a)) old.in_time;
    }
sound_after_grant config now count a leases after result h (begins allowed none room _) = record {
  apart = apart_push leases (begun config now a) none h.apart;
  one_kind = kind_push config now a leases allowed none;
  most = omega (arith, length-append leases (begun config now a ∷ []), room);
  in_time = all_joined (λ lease. lease.end ≤ latest_end config now) leases (begun config now a ∷ []) h.in_time (end_in_time config now a, tt);
}
sound_after_grant config now count a leases after result h rule = h

pub sound_after_release : (latest addr : ℕ) (leases after : List Lease) (result : Released) → AreSound latest leases → ReleaseCase addr leases result after → AreSound latest after
sound_after_release latest addr leases after result h (gone before behind lease is own) =
    let old : AreSound latest (before ++ lease ∷ behind) = subst (AreSound latest) is h in
    record {
      apart = apart_without before behind lease old.apart;
      one_kind = kind_without before behind lease old.one_kind;
      most = omega (arith, length-append before (lease ∷ behind), length-append before behind, old.most);
      in_time = all_without (λ l. l.end ≤ latest) before behind lease old.in_time;
    }
sound_after_release latest addr leases after result h rule = h

-- at one name
sound_at : (config : ConfigValue) (now : ℕ) (name : NameValue) (leases : List Lease) (others : Leases) → AreSound (latest_end config now) leases → IsSound config now others → IsSound config now (at_name name leases others)
sound_at config now name leases others here elsewhere q = cond_both (same_name q name) leases (others q) (AreSound (latest_end config now)) (λ _. here) (λ _. elsewhere q)

pub sound_granted : (table : TableValue) (now : ℕ) (name : NameValue) (a : Asked) (result : Result Grant GrantFault) (after : Leases) → IsSound table.config now (leases_at now table.rows) → Grants table now name a result after → IsSound table.config now after
sound_granted table now name a result after h g =
    subst (IsSound table.config now) (sym g.after_is) (sound_at table.config now name g.leases (leases_at now table.rows) (sound_after_grant table.config now (live_count now table.rows) a (leases_at now table.rows name) g.leases result (h name) g.rule) h)

pub sound_released : (table : TableValue) (now : ℕ) (name : NameValue) (addr : ℕ) (result : Released) (after : Leases) → IsSound table.config now (leases_at now table.rows) → Releases table now name addr result after → IsSound table.config now after
sound_released table now name addr result after h r =
    subst (IsSound table.config now) (sym r.after_is) (sound_at table.config now name r.leases (leases_at now table.rows) (sound_after_release (latest_end table.config now) addr (leases_at now table.rows name) r.leases result (h name) r.rule) h)

pub none_sound : (config : ConfigValue) (m : ℕ) → IsSound config m (leases_at m [])
none_sound config m name = subst (AreSound (latest_end config m)) (sym (none_live m name)) (record { apart = tt; one_kind = group tt; most = omega arith; in_time = tt })
