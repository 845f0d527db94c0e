-- The search for an requester's lease, as far as it has come.
use Rattle.std.proofs.Common.{◌≡◌, ◌≢◌, ℕ, ◌+◌, ◌<◌, ◌≤◌, ◌↔◌, Bool, true, false, IsTrue, List, [], ◌∷◌, ◌++◌, length, take, get_or, refl, sym, ap, ◌∙◌, subst, ⊎_elim, arith}
use Rattle.nbt_lease.proofs.Common.{filter, cases_eq, both_ways, false≢true, append-nil, append_assoc, filter-append, le-ltb, lt-ltb, take_more, length-append, Unique, Group, Lease, Standing, is_live, HasNone, AreGroup, HasOne, StandsIn, Asked, IsAllowed, free, member, owner}
use Rattle.nbt_lease.proofs.Sound.{all_front, all_behind, all_joined}
use Rattle.nbt_lease.proofs.Cases.{kind_cases, kinds_differ}
use Rattle.nbt_lease.proofs.Flat.{live_front, over_front}

-- before the first lease
pub none_found : (addr : ℕ) → StandsIn addr [] (record { own = false; members = 0; group = true })
none_found addr = record { members = refl; group = (λ _. tt, λ _. refl); own = λ e. absurd (false≢true e); none = λ _. tt }

-- what `add` does with a lease
pub record Adds (lease : Lease) (addr : ℕ) (old new : Standing) : Type 0 where
  pub members : new.members ≡ old.members + 1
  pub group : IsTrue new.group ↔ (IsTrue old.group × (lease.kind ≡ Group))
  pub own : lease.addr ≡ addr → new.own ≡ true
  pub other : lease.addr ≢ addr → new.own ≡ old.own

own_more : (addr : ℕ) (leases : List Lease) (lease : Lease) (old new : Standing) → Adds lease addr old new → (old.own ≡ true → HasOne addr leases) → new.own ≡ true → HasOne addr (leases ++ lease ∷ [])
own_more addr leases lease old new adds so_far is =
    ⊎_elim
    (λ same. record { before = leases; lease = lease; behind = []; is = refl; owner_is = same })
    (λ other.
    let h = so_far (sym (adds.other other) ∙ is) in
    record {
      before = h.before;
      lease = h.lease;
      behind = h.behind ++ lease ∷ [];
      is = ap (λ (ls : List Lease). ls ++ lease ∷ []) h.is ∙ append_assoc h.before (h.lease ∷ h.behind) (lease ∷ []);
      owner_is = h.owner_is;
    })
    (cases_eq lease.addr addr)

none_more : (addr : ℕ) (leases : List Lease) (lease : Lease) (old new : Standing) → Adds lease addr old new → (old.own ≡ false → HasNone addr leases) → new.own ≡ false → HasNone addr (leases ++ lease ∷ [])
none_more addr leases lease old new adds so_far is =
    ⊎_elim
    (λ same. absurd (both_ways new.own is (adds.own same)))
    (λ other. all_joined (λ l. l.addr ≢ addr) leases (lease ∷ []) (so_far (sym (adds.other other) ∙ is)) (other, tt))
    (cases_eq lease.addr addr)

one_more_stands : (addr : ℕ) (leases : List Lease) (lease : Lease) (old new : Standing) → Adds lease addr old new → StandsIn addr leases old → StandsIn addr (leases ++ lease ∷ []) new
one_more_stands addr leases lease old new adds so_far = record {
  members = omega (arith, adds.members, so_far.members, length-append leases (lease ∷ []));
  group = (
    λ h. let parts = adds.group.0 h in all_joined (λ l. l.kind ≡ Group) leases (lease ∷ []) (so_far.group.0 parts.0) (parts.1, tt),
    λ h. adds.group.1 (so_far.group.1 (all_front (λ l. l.kind ≡ Group) leases (lease ∷ []) h), (all_behind (λ l. l.kind ≡ Group) leases (lease ∷ []) h).0),
  );
  own = own_more addr leases lease old new adds so_far.own;
  none = none_more addr leases lease old new adds so_far.none;
}

-- of the next one, if it lives
pub added : (addr now i : ℕ) (leases : List Lease) (d : Lease) (old new : Standing) → i < length leases → now < (get_or leases i d).end → Adds (get_or leases i d) addr old new → StandsIn addr (filter (is_live now) (take i leases)) old → StandsIn addr (filter (is_live now) (take (i + 1) leases)) new
added addr now i leases d old new within live adds so_far =
    let next : Lease = get_or leases i d in
    let more : filter (is_live now) (take (i + 1) leases) ≡ filter (is_live now) (take i leases) ++ next ∷ [] =
    ap (filter (is_live now)) (take_more leases i d within)
    ∙ (filter-append (is_live now) (take i leases) (next ∷ []) ∙ ap (λ (ls : List Lease). filter (is_live now) (take i leases) ++ ls) (live_front now next [] (lt-ltb now next.end live))) in
    subst (λ (ls : List Lease). StandsIn addr ls new) (sym more) (one_more_stands addr (filter (is_live now) (take i leases)) next old new adds so_far)

pub passed_by : (addr now i : ℕ) (leases : List Lease) (d : Lease) (standing : Standing) → i < length leases → (get_or leases i d).end ≤ now → StandsIn addr (filter (is_live now) (take i leases)) standing → StandsIn addr (filter (is_live now) (take (i + 1) leases)) standing
passed_by addr now i leases d standing within over so_far =
    let next : Lease = get_or leases i d in
    let same : filter (is_live now) (take (i + 1) leases) ≡ filter (is_live now) (take i leases) =
    ap (filter (is_live now)) (take_more leases i d within)
    ∙ (filter-append (is_live now) (take i leases) (next ∷ [])
    ∙ (ap (λ (ls : List Lease). filter (is_live now) (take i leases) ++ ls) (over_front now next [] (le-ltb now next.end over)) ∙ append-nil (filter (is_live now) (take i leases)))) in
    subst (λ (ls : List Lease). StandsIn addr ls standing) (sym same) so_far

-- ---- what was found

only_one : (before behind : List Lease) (lease : Lease) → length (before ++ lease ∷ behind) ≡ 1 → before ++ lease ∷ behind ≡ lease ∷ []
only_one [] [] lease one = refl
only_one [] (x ∷ behind) lease one = absurd (omega (arith, one))
only_one (x ∷ before) behind lease one = absurd (omega (arith, one, length-append before (lease ∷ behind)))

own_allowed : (a : Asked) (leases before behind : List Lease) (lease : Lease) → leases ≡ before ++ lease ∷ behind → lease.addr ≡ a.addr → length leases ≡ 1 → (AreGroup leases → ⊥) → a.kind ≡ Unique → IsAllowed a leases
own_allowed a leases before behind lease is own one mixed is_unique =
    let only : leases ≡ lease ∷ [] = is ∙ only_one before behind lease (ap length (sym is) ∙ one) in
    ⊎_elim
    (λ alone. owner lease only own alone is_unique)
    (λ is_group. absurd (mixed (subst AreGroup (sym only) (is_group, tt))))
    (kind_cases lease.kind)

owner_found : (a : Asked) (leases : List Lease) → a.kind ≡ Unique → length leases ≡ 1 → HasNone a.addr leases → IsAllowed a leases → ⊥
owner_found a leases is_unique one none (free empty) = omega (arith, one, ap length empty)
owner_found a leases is_unique one none (member _ is_group) = kinds_differ a.kind is_unique is_group
owner_found a leases is_unique one none (owner lease only own _ _) = (subst (HasNone a.addr) only none).0 own

-- one lease, of no group: the requester has it, or a grant isn't allowed
pub owner_asks : (a : Asked) (leases : List Lease) (own : Bool) → length leases ≡ 1 → (AreGroup leases → ⊥) → a.kind ≡ Unique → (own ≡ true → HasOne a.addr leases) → (own ≡ false → HasNone a.addr leases) → IsTrue own ↔ IsAllowed a leases
owner_asks a leases false one mixed is_unique has none = (λ h. absurd (false≢true h), λ allowed. absurd (owner_found a leases is_unique one (none refl) allowed))
owner_asks a leases true one mixed is_unique has none = (λ _. let h = has refl in own_allowed a leases h.before h.behind h.lease h.is h.owner_is one mixed is_unique, λ _. refl)

-- the same of equal leases and an equal address
pub found_in : (addr other : ℕ) (slice leases : List Lease) (standing : Standing) → addr ≡ other → slice ≡ leases → StandsIn addr slice standing → StandsIn other leases standing
found_in addr other slice leases standing same is found =
    subst (λ (ls : List Lease). StandsIn other ls standing) is (subst (λ (n : ℕ). StandsIn n slice standing) same found)
