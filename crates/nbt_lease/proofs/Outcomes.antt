-- A grant and a release have one outcome.
use Rattle.std.proofs.Common.{◌≡◌, ℕ, List, [], ◌∷◌, ◌++◌, length, true, false, Result, Ok, Err, max, refl, sym, ap, ◌∙◌, subst, ⊎_elim, arith}
use Rattle.nbt_lease.proofs.Common.{cases_lt, NameValue, Lease, Grant, Released, Gone, NoLease, OfOthers, GrantFault, Active, TableFull, GroupFull, ConfigValue, Leases, TableValue, leases_at, live_count, members_most, at_name, HasNone, AreApart, IsSound, Asked, IsAllowed, end_of, grant_until, GrantCase, active, renews, group_full, table_full, begins, Grants, renewed, begun, ReleaseCase, gone, no_lease, of_others, Releases, HasOne}
use Rattle.nbt_lease.proofs.Others.{some_there}
use Rattle.nbt_lease.proofs.Cases.{own_or_none, not_none, one_own, allowed_or_not}

-- ---- a grant

record GrantOutcome (config : ConfigValue) (now count : ℕ) (a : Asked) (leases : List Lease) : Type 0 where
  result : Result Grant GrantFault
  after : List Lease
  rule : GrantCase config now count a leases result after

new_lease : (config : ConfigValue) (now count : ℕ) (a : Asked) (leases : List Lease) → IsAllowed a leases → HasNone a.addr leases → GrantOutcome config now count a leases
new_lease config now count a leases allowed none =
    ⊎_elim
    (λ room.
    ⊎_elim
    (λ free. record { result = Ok (grant_until config a (end_of config now a) false); after = leases ++ begun config now a ∷ []; rule = begins allowed none room free })
    (λ full. record { result = Err TableFull; after = leases; rule = table_full allowed none room full })
    (cases_lt count config.rows))
    (λ full. record { result = Err GroupFull; after = leases; rule = group_full allowed none full })
    (cases_lt (length leases) members_most)

granted_case : (config : ConfigValue) (now count : ℕ) (a : Asked) (leases : List Lease) → GrantOutcome config now count a leases
granted_case config now count a leases =
    ⊎_elim
    (λ allowed.
    ⊎_elim
    (λ (own : HasOne a.addr leases). record {
      result = Ok (grant_until config a (max own.lease.end (end_of config now a)) true);
      after = own.before ++ renewed config now a own.lease ∷ own.behind;
      rule = renews allowed own.before own.behind own.lease own.is own.owner_is;
    })
    (λ none. new_lease config now count a leases allowed none)
    (own_or_none a.addr leases))
    (λ refused. record { result = Err Active; after = leases; rule = active refused })
    (allowed_or_not a leases)

pub grant_found : (table : TableValue) (now : ℕ) (name : NameValue) (a : Asked) → (result : Result Grant GrantFault) × (after : Leases) × Grants table now name a result after
grant_found table now name a =
    let case = granted_case table.config now (live_count now table.rows) a (leases_at now table.rows name) in
    (case.result, at_name name case.after (leases_at now table.rows), record { leases = case.after; rule = case.rule; after_is = refl })

same_grant : (config : ConfigValue) (now count : ℕ) (a : Asked) (leases : List Lease) (r s : Result Grant GrantFault) (x y : List Lease) → AreApart leases
    → GrantCase config now count a leases r x → GrantCase config now count a leases s y → (r ≡ s) × (x ≡ y)
same_grant config now count a leases r s x y apart (active no') (active _) = (refl, refl)
same_grant config now count a leases r s x y apart (active no') (renews allowed _ _ _ _ _) = absurd (no' allowed)
same_grant config now count a leases r s x y apart (active no') (group_full allowed _ _) = absurd (no' allowed)
same_grant config now count a leases r s x y apart (active no') (table_full allowed _ _ _) = absurd (no' allowed)
same_grant config now count a leases r s x y apart (active no') (begins allowed _ _ _) = absurd (no' allowed)
same_grant config now count a leases r s x y apart (renews allowed _ _ _ _ _) (active no') = absurd (no' allowed)
same_grant config now count a leases r s x y apart (renews _ before behind lease is own) (renews _ before' behind' lease' is' own') =
    let parts = one_own a.addr before behind before' behind' lease lease' (subst AreApart is apart) (sym is ∙ is') own own' in
    (λ i. Ok (grant_until config a (max (parts.1 i).end (end_of config now a)) true), λ i. parts.0 i ++ renewed config now a (parts.1 i) ∷ parts.2 i)
same_grant config now count a leases r s x y apart (renews _ before behind lease is own) (group_full _ none _) = absurd (not_none a.addr leases before behind lease is own none)
same_grant config now count a leases r s x y apart (renews _ before behind lease is own) (table_full _ none _ _) = absurd (not_none a.addr leases before behind lease is own none)
same_grant config now count a leases r s x y apart (renews _ before behind lease is own) (begins _ none _ _) = absurd (not_none a.addr leases before behind lease is own none)
same_grant config now count a leases r s x y apart (group_full allowed _ _) (active no') = absurd (no' allowed)
same_grant config now count a leases r s x y apart (group_full _ none _) (renews _ before behind lease is own) = absurd (not_none a.addr leases before behind lease is own none)
same_grant config now count a leases r s x y apart (group_full _ _ _) (group_full _ _ _) = (refl, refl)
same_grant config now count a leases r s x y apart (group_full _ _ full) (table_full _ _ room _) = absurd (omega (arith, full, room))
same_grant config now count a leases r s x y apart (group_full _ _ full) (begins _ _ room _) = absurd (omega (arith, full, room))
same_grant config now count a leases r s x y apart (table_full allowed _ _ _) (active no') = absurd (no' allowed)
same_grant config now count a leases r s x y apart (table_full _ none _ _) (renews _ before behind lease is own) = absurd (not_none a.addr leases before behind lease is own none)
same_grant config now count a leases r s x y apart (table_full _ _ room _) (group_full _ _ full) = absurd (omega (arith, full, room))
same_grant config now count a leases r s x y apart (table_full _ _ _ _) (table_full _ _ _ _) = (refl, refl)
same_grant config now count a leases r s x y apart (table_full _ _ _ full) (begins _ _ _ free) = absurd (omega (arith, full, free))
same_grant config now count a leases r s x y apart (begins allowed _ _ _) (active no') = absurd (no' allowed)
same_grant config now count a leases r s x y apart (begins _ none _ _) (renews _ before behind lease is own) = absurd (not_none a.addr leases before behind lease is own none)
same_grant config now count a leases r s x y apart (begins _ _ room _) (group_full _ _ full) = absurd (omega (arith, full, room))
same_grant config now count a leases r s x y apart (begins _ _ _ free) (table_full _ _ _ full) = absurd (omega (arith, full, free))
same_grant config now count a leases r s x y apart (begins _ _ _ _) (begins _ _ _ _) = (refl, refl)

pub one_grant : (table : TableValue) (now : ℕ) (name : NameValue) (a : Asked) (r s : Result Grant GrantFault) (x y : Leases) → IsSound table.config now (leases_at now table.rows) → Grants table now name a r x → Grants table now name a s y → (r ≡ s) × (x ≡ y)
one_grant table now name a r s x y sound g h =
    let leases : List Lease = leases_at now table.rows name in
    let same = same_grant table.config now (live_count now table.rows) a leases r s g.leases h.leases (sound name).apart g.rule h.rule in
    (same.0, g.after_is ∙ (ap (λ (ls : List Lease). at_name name ls (leases_at now table.rows)) same.1 ∙ sym h.after_is))

-- ---- a release

record ReleaseOutcome (addr : ℕ) (leases : List Lease) : Type 0 where
  result : Released
  after : List Lease
  rule : ReleaseCase addr leases result after

not_owned : (addr : ℕ) (leases : List Lease) → HasNone addr leases → ReleaseOutcome addr leases
not_owned addr [] none = record { result = NoLease; after = []; rule = no_lease refl }
not_owned addr (x ∷ xs) none = record { result = OfOthers; after = x ∷ xs; rule = of_others (λ e. cc) none }

released_case : (addr : ℕ) (leases : List Lease) → ReleaseOutcome addr leases
released_case addr leases =
    ⊎_elim
    (λ (own : HasOne addr leases). record { result = Gone; after = own.before ++ own.behind; rule = gone own.before own.behind own.lease own.is own.owner_is })
    (λ none. not_owned addr leases none)
    (own_or_none addr leases)

pub release_found : (table : TableValue) (now : ℕ) (name : NameValue) (addr : ℕ) → (result : Released) × (after : Leases) × Releases table now name addr result after
release_found table now name addr =
    let case = released_case addr (leases_at now table.rows name) in
    (case.result, at_name name case.after (leases_at now table.rows), record { leases = case.after; rule = case.rule; after_is = refl })

same_release : (addr : ℕ) (leases : List Lease) (r s : Released) (x y : List Lease) → AreApart leases → ReleaseCase addr leases r x → ReleaseCase addr leases s y → (r ≡ s) × (x ≡ y)
same_release addr leases r s x y apart (gone before behind lease is own) (gone before' behind' lease' is' own') =
    let parts = one_own addr before behind before' behind' lease lease' (subst AreApart is apart) (sym is ∙ is') own own' in
    (refl, λ i. parts.0 i ++ parts.2 i)
same_release addr leases r s x y apart (gone before behind lease is own) (no_lease empty) = absurd (some_there before behind lease (sym is ∙ empty))
same_release addr leases r s x y apart (gone before behind lease is own) (of_others _ none) = absurd (not_none addr leases before behind lease is own none)
same_release addr leases r s x y apart (no_lease empty) (gone before behind lease is own) = absurd (some_there before behind lease (sym is ∙ empty))
same_release addr leases r s x y apart (no_lease _) (no_lease _) = (refl, refl)
same_release addr leases r s x y apart (no_lease empty) (of_others some _) = absurd (some empty)
same_release addr leases r s x y apart (of_others _ none) (gone before behind lease is own) = absurd (not_none addr leases before behind lease is own none)
same_release addr leases r s x y apart (of_others some _) (no_lease empty) = absurd (some empty)
same_release addr leases r s x y apart (of_others _ _) (of_others _ _) = (refl, refl)

pub one_release : (table : TableValue) (now : ℕ) (name : NameValue) (addr : ℕ) (r s : Released) (x y : Leases) → IsSound table.config now (leases_at now table.rows) → Releases table now name addr r x → Releases table now name addr s y → (r ≡ s) × (x ≡ y)
one_release table now name addr r s x y sound g h =
    let same = same_release addr (leases_at now table.rows name) r s g.leases h.leases (sound name).apart g.rule h.rule in
    (same.0, g.after_is ∙ (ap (λ (ls : List Lease). at_name name ls (leases_at now table.rows)) same.1 ∙ sym h.after_is))
