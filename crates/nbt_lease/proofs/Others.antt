-- What a grant and a release leave to other addresses, and what a grant leaves to the requester.
use Rattle.std.proofs.Common.{◌≡◌, ◌≢◌, ℕ, ◌⊎◌, ◌↔◌, List, [], ◌∷◌, ◌++◌, Result, Ok, max, refl, sym, ap, ◌∙◌, subst, inl, inr, ⊎_elim, arith}
use Rattle.nbt_lease.proofs.Common.{AllByRecursion, Contains, cond-true, cases_lt, Contains-append_left, Contains-append_right, Contains-append_cases, Contains-push, Contains-push_cases, NameValue, same_name, Group, Lease, Grant, Released, GrantFault, ConfigValue, Leases, TableValue, leases_at, live_count, at_name, AreGroup, AreApart, IsSound, Asked, IsAllowed, free, member, owner, end_of, GrantCase, renews, begins, Grants, renewed, begun, IsGranted, ReleaseCase, gone, Releases, All-contains, All-from_recursion}
use Rattle.nbt_name.proofs.Same.{same_name-same}
use Rattle.nbt_lease.proofs.Sound.{all_behind, alone, sound_after_grant}
use Rattle.nbt_lease.proofs.Cases.{one_own}

-- ---- leases among others

contains_cases : (x : Lease) (xs : List Lease) (lease : Lease) → Contains (x ∷ xs) lease → (x ≡ lease) ⊎ Contains xs lease
contains_cases x xs lease h =
    ⊎_elim
    (λ (first : Contains (x ∷ []) lease). ⊎_elim (λ (none : Contains [] lease). absurd (omega (arith, none.1))) (λ same. inl same) (Contains-push_cases [] x lease first))
    (λ rest. inr rest)
    (Contains-append_cases (x ∷ []) xs lease h)

contains_first : (x : Lease) (xs : List Lease) → Contains (x ∷ xs) x
contains_first x xs = Contains-append_left (x ∷ []) xs x (Contains-push [] x)

contains_rest : (x : Lease) (xs : List Lease) (lease : Lease) → Contains xs lease → Contains (x ∷ xs) lease
contains_rest x xs lease h = Contains-append_right (x ∷ []) xs lease h

-- a lease that stands there has leases before it and after it
record Place (leases : List Lease) (lease : Lease) : Type 0 where
  before : List Lease
  behind : List Lease
  is : leases ≡ before ++ lease ∷ behind

placed : (leases : List Lease) (lease : Lease) → Contains leases lease → Place leases lease
placed [] lease h = absurd (omega (arith, h.1))
placed (x ∷ xs) lease h =
    ⊎_elim
    (λ same. record { before = []; behind = xs; is = ap (λ (l : Lease). l ∷ xs) same })
    (λ rest. let p : Place xs lease = placed xs lease rest in record { before = x ∷ p.before; behind = p.behind; is = ap (λ (ys : List Lease). x ∷ ys) p.is })
    (contains_cases x xs lease h)

each : (P : Lease → Type 0) (leases : List Lease) (lease : Lease) → Contains leases lease → AllByRecursion P leases → P lease
each P leases lease h all = All-contains P leases lease (All-from_recursion P leases all) h

-- nothing in one's place leaves the others, and so does another lease
without_place : (before behind : List Lease) (old lease : Lease) → old ≢ lease → Contains (before ++ old ∷ behind) lease → Contains (before ++ behind) lease
without_place before behind old lease apart h =
    ⊎_elim
    (λ front. Contains-append_left before behind lease front)
    (λ rest.
    ⊎_elim
    (λ same. absurd (apart same))
    (λ after. Contains-append_right before behind lease after)
    (contains_cases old behind lease rest))
    (Contains-append_cases before (old ∷ behind) lease h)

with_place : (before behind : List Lease) (new lease : Lease) → Contains (before ++ behind) lease → Contains (before ++ new ∷ behind) lease
with_place before behind new lease h =
    ⊎_elim
    (λ front. Contains-append_left before (new ∷ behind) lease front)
    (λ rest. Contains-append_right before (new ∷ behind) lease (contains_rest new behind lease rest))
    (Contains-append_cases before behind lease h)

other_in_place : (before behind : List Lease) (old new lease : Lease) → old ≢ lease → Contains (before ++ old ∷ behind) lease → Contains (before ++ new ∷ behind) lease
other_in_place before behind old new lease apart h = with_place before behind new lease (without_place before behind old lease apart h)

addr_apart : (own lease : Lease) (addr : ℕ) → own.addr ≡ addr → lease.addr ≢ addr → own ≢ lease
addr_apart own lease addr is other same = other (ap (λ (l : Lease). l.addr) (sym same) ∙ is)

-- ---- other addresses

others_after_grant : (config : ConfigValue) (now count : ℕ) (a : Asked) (leases after : List Lease) (result : Result Grant GrantFault) (lease : Lease) → lease.addr ≢ a.addr
    → GrantCase config now count a leases result after → Contains leases lease ↔ Contains after lease
others_after_grant config now count a leases after result lease other (renews _ before behind own is own_is) =
    let new : Lease = renewed config now a own in (
      λ h. other_in_place before behind own new lease (addr_apart own lease a.addr own_is other) (subst (λ (ls : List Lease). Contains ls lease) is h),
      λ h. subst (λ (ls : List Lease). Contains ls lease) (sym is) (other_in_place before behind new own lease (addr_apart new lease a.addr own_is other) h),
    )
others_after_grant config now count a leases after result lease other (begins _ _ _ _) =
    let new : Lease = begun config now a in (
      λ h. Contains-append_left leases (new ∷ []) lease h,
      λ h. ⊎_elim (λ old. old) (λ same. absurd (addr_apart new lease a.addr refl other same)) (Contains-push_cases leases new lease h),
    )
others_after_grant config now count a leases after result lease other rule = (λ h. h, λ h. h)

others_after_release : (addr : ℕ) (leases after : List Lease) (result : Released) (lease : Lease) → lease.addr ≢ addr → ReleaseCase addr leases result after → Contains leases lease ↔ Contains after lease
others_after_release addr leases after result lease other (gone before behind own is own_is) = (
  λ h. without_place before behind own lease (addr_apart own lease addr own_is other) (subst (λ (ls : List Lease). Contains ls lease) is h),
  λ h. subst (λ (ls : List Lease). Contains ls lease) (sym is) (with_place before behind own lease h),
)
others_after_release addr leases after result lease other rule = (λ h. h, λ h. h)

pub here : (name : NameValue) (leases : List Lease) (others : Leases) → at_name name leases others name ≡ leases
here name leases others = cond-true (same_name name name) leases (others name) (same_name-same name)

after_here : (name : NameValue) (leases : List Lease) (others after : Leases) → after ≡ at_name name leases others → leases ≡ after name
after_here name leases others after is = sym (ap (λ (f : Leases). f name) is ∙ here name leases others)

pub others_granted : (table : TableValue) (now : ℕ) (name : NameValue) (a : Asked) (result : Result Grant GrantFault) (after : Leases) (lease : Lease) → Grants table now name a result after → lease.addr ≢ a.addr
    → Contains (leases_at now table.rows name) lease ↔ Contains (after name) lease
others_granted table now name a result after lease g other =
    let leases : List Lease = leases_at now table.rows name in
    subst (λ (ls : List Lease). Contains leases lease ↔ Contains ls lease) (after_here name g.leases (leases_at now table.rows) after g.after_is)
    (others_after_grant table.config now (live_count now table.rows) a leases g.leases result lease other g.rule)

pub others_released : (table : TableValue) (now : ℕ) (name : NameValue) (addr : ℕ) (result : Released) (after : Leases) (lease : Lease) → Releases table now name addr result after → lease.addr ≢ addr
    → Contains (leases_at now table.rows name) lease ↔ Contains (after name) lease
others_released table now name addr result after lease r other =
    let leases : List Lease = leases_at now table.rows name in
    subst (λ (ls : List Lease). Contains leases lease ↔ Contains ls lease) (after_here name r.leases (leases_at now table.rows) after r.after_is)
    (others_after_release addr leases r.leases result lease other r.rule)

-- ---- the requester

pub some_there : (before behind : List Lease) (lease : Lease) → before ++ lease ∷ behind ≡ [] → ⊥
some_there [] behind lease empty = cc
some_there (x ∷ before) behind lease empty = cc

-- a renewed lease is of the requested kind
kind_asked : (a : Asked) (leases before behind : List Lease) (own : Lease) → leases ≡ before ++ own ∷ behind → IsAllowed a leases → own.kind ≡ a.kind
kind_asked a leases before behind own is (free empty) = absurd (some_there before behind own (sym is ∙ empty))
kind_asked a leases before behind own is (member all is_group) = (all_behind (λ l. l.kind ≡ Group) before (own ∷ behind) (subst AreGroup is all)).0 ∙ sym is_group
kind_asked a leases before behind own is (owner lease only _ unique is_unique) = ap (λ (l : Lease). l.kind) (alone before behind own lease (sym is ∙ only)).1 ∙ (unique ∙ sym is_unique)

same_owner : (a : Asked) (leases before behind : List Lease) (own old : Lease) → AreApart leases → leases ≡ before ++ own ∷ behind → own.addr ≡ a.addr → Contains leases old → old.addr ≡ a.addr → own ≡ old
same_owner a leases before behind own old apart is own_is stands old_is =
    let p = placed leases old stands in
    (one_own a.addr before behind p.before p.behind own old (subst AreApart is apart) (sym is ∙ p.is) own_is old_is).1

-- a renewed lease expires as granted, or as before
end_cases : (config : ConfigValue) (now : ℕ) (a : Asked) (leases before behind : List Lease) (own : Lease) → leases ≡ before ++ own ∷ behind → own.addr ≡ a.addr
    → (max own.end (end_of config now a) ≡ end_of config now a) ⊎ ((old : Lease) × Contains leases old × (old.addr ≡ a.addr) × (max own.end (end_of config now a) ≡ old.end))
end_cases config now a leases before behind own is own_is =
    ⊎_elim
    (λ earlier. inl (omega (arith, earlier)))
    (λ later. inr (own, subst (λ (ls : List Lease). Contains ls own) (sym is) (Contains-append_right before (own ∷ behind) own (contains_first own behind)), own_is, omega (arith, later)))
    (cases_lt own.end (end_of config now a))

granted_in_list : (table : TableValue) (now : ℕ) (name : NameValue) (a : Asked) (after : List Lease) (grant : Grant) → AreApart (leases_at now table.rows name) → AreApart after
    → GrantCase table.config now (live_count now table.rows) a (leases_at now table.rows name) (Ok grant) after → (lease : Lease) × IsGranted table now name a grant after lease
granted_in_list table now name a after grant apart after_apart (renews allowed before behind own is own_is) =
    let leases : List Lease = leases_at now table.rows name in
    let new : Lease = renewed table.config now a own in (
      new,
      record {
        stands = Contains-append_right before (new ∷ behind) new (contains_first new behind);
        addr_is = own_is;
        kind_is = kind_asked a leases before behind own is allowed;
        end_is = refl;
        as_granted = omega arith;
        no_earlier = λ old stands old_is. let same : own.end ≡ old.end = ap (λ (l : Lease). l.end) (same_owner a leases before behind own old apart is own_is stands old_is) in omega (arith, same);
        no_later = end_cases table.config now a leases before behind own is own_is;
        only = λ other stands other_is. sym (same_owner a (before ++ new ∷ behind) before behind new other after_apart refl own_is stands other_is);
      },
    )
granted_in_list table now name a after grant apart after_apart (begins allowed none _ _) =
    let leases : List Lease = leases_at now table.rows name in
    let new : Lease = begun table.config now a in (
      new,
      record {
        stands = Contains-push leases new;
        addr_is = refl;
        kind_is = refl;
        end_is = refl;
        as_granted = omega arith;
        no_earlier = λ old stands old_is. absurd (each (λ l. l.addr ≢ a.addr) leases old stands none old_is);
        no_later = inl refl;
        only = λ other stands other_is. sym (same_owner a (leases ++ new ∷ []) leases [] new other after_apart refl refl stands other_is);
      },
    )

pub lease_stands : (table : TableValue) (now : ℕ) (name : NameValue) (a : Asked) (grant : Grant) (after : Leases) → IsSound table.config now (leases_at now table.rows) → Grants table now name a (Ok grant) after
    → (lease : Lease) × IsGranted table now name a grant (after name) lease
lease_stands table now name a grant after sound g =
    subst (λ (ls : List Lease). (lease : Lease) × IsGranted table now name a grant ls lease) (after_here name g.leases (leases_at now table.rows) after g.after_is)
    (granted_in_list table now name a g.leases grant (sound name).apart (sound_after_grant table.config now (live_count now table.rows) a (leases_at now table.rows name) g.leases (Ok grant) (sound name) g.rule).apart g.rule)

beside_allowed : (a : Asked) (leases : List Lease) (other : Lease) → IsAllowed a leases → Contains leases other → other.addr ≢ a.addr → (other.kind ≡ Group) × (a.kind ≡ Group)
beside_allowed a leases other (free empty) stands apart = absurd (omega (arith, (subst (λ (ls : List Lease). Contains ls other) empty stands).1))
beside_allowed a leases other (member all is_group) stands apart = (each (λ l. l.kind ≡ Group) leases other stands all, is_group)
beside_allowed a leases other (owner lease only own _ _) stands apart =
    ⊎_elim
    (λ same. absurd (addr_apart lease other a.addr own apart same))
    (λ (none : Contains [] other). absurd (omega (arith, none.1)))
    (contains_cases lease [] other (subst (λ (ls : List Lease). Contains ls other) only stands))

was_allowed : (config : ConfigValue) (now count : ℕ) (a : Asked) (leases after : List Lease) (grant : Grant) → GrantCase config now count a leases (Ok grant) after → IsAllowed a leases
was_allowed config now count a leases after grant (renews allowed _ _ _ _ _) = allowed
was_allowed config now count a leases after grant (begins allowed _ _ _) = allowed

pub beside : (table : TableValue) (now : ℕ) (name : NameValue) (a : Asked) (grant : Grant) (after : Leases) (other : Lease) → Grants table now name a (Ok grant) after
    → Contains (leases_at now table.rows name) other → other.addr ≢ a.addr → (other.kind ≡ Group) × (a.kind ≡ Group)
beside table now name a grant after other g stands apart =
    let leases : List Lease = leases_at now table.rows name in
    beside_allowed a leases other (was_allowed table.config now (live_count now table.rows) a leases g.leases grant g.rule) stands apart
