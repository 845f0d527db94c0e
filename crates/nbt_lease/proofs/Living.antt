-- What lives among the members, where others that are over may stand, and what a change of one member makes of it.
use Rattle.std.proofs.Common.{◌≡◌, ◌==◌, ℕ, ◌<◌, ◌≤◌, leb, Bool, true, false, ◌&&◌, ◌||◌, cond, IsTrue, List, [], ◌∷◌, ◌++◌, refl, sym, ap, ◌∙◌, ⊎_elim, arith}
use Rattle.nbt_lease.proofs.Common.{OnFalse, filter, IsDistinct, cases_Bool, or_right, Due, Agrees, due, in_set, has_end, keys_of, filter-append, list_any-append, and_cases, and_parts, both_ways, eq-eqb, ne_eqb, leb-true, leb-false, lt-ltb, or_parts, NameValue, same_name, Lease, Leases, is_live, leases_at, at_name, HasNone, Entries, members_of, rows_of, living, has_over, IsMember, Renewed, Moves, Ended}
use Rattle.nbt_lease.proofs.Rows.{same_leases}
use Rattle.nbt_lease.proofs.Others.{here}
use Rattle.nbt_lease.proofs.Flat.{leases_are, live_front, live_stays}
use Rattle.nbt_lease.proofs.Agreeing.{only_bool}

pub living_rows : (m : ℕ) (es : Entries) → IsDistinct same_name (keys_of es) → leases_at m (rows_of es) ≡ living m es
living_rows m es names = same_leases (leases_at m (rows_of es)) (living m es) (λ q. leases_are m es q names)

pub same_living : (m : ℕ) (es fs : Entries) → members_of fs ≡ members_of es → living m fs ≡ living m es
same_living m es fs same = same_leases (living m fs) (living m es) (λ q. ap (λ (f : Leases). filter (is_live m) (f q)) same)

-- ---- a member that is over

abbrev over_so : ℕ → ℕ → Lease → Bool
over_so addr m lease = (lease.addr == addr) && leb lease.end m

over-append : (addr m : ℕ) (xs ys : List Lease) → has_over addr m (xs ++ ys) ≡ (has_over addr m xs || has_over addr m ys)
over-append addr m xs ys = list_any-append (over_so addr m) xs ys

pub none_over : (addr m : ℕ) (leases : List Lease) → HasNone addr leases → has_over addr m leases ≡ false
none_over addr m [] none = refl
none_over addr m (x ∷ xs) none = rw (ne_eqb x.addr addr none.0) (none_over addr m xs none.1)

own_lives : (addr m : ℕ) (leases before : List Lease) (lease : Lease) (behind : List Lease) → IsMember addr leases before lease behind → has_over addr m leases ≡ false → m < lease.end
own_lives addr m leases before lease behind is none =
    let all : (has_over addr m before || has_over addr m (lease ∷ behind)) ≡ false = sym (over-append addr m before (lease ∷ behind)) ∙ (ap (has_over addr m) (sym is.is) ∙ none) in
    let rest : has_over addr m (lease ∷ behind) ≡ false = (or_parts (has_over addr m before) (has_over addr m (lease ∷ behind)) all).1 in
    ⊎_elim
    (λ other. absurd (both_ways (lease.addr == addr) other (eq-eqb lease.addr addr is.owner_is)))
    (λ live. leb-false lease.end m live)
    (and_cases (lease.addr == addr) (leb lease.end m) (or_parts (over_so addr m lease) (has_over addr m behind) rest).0)

own_over : (addr m : ℕ) (before behind : List Lease) (lease : Lease) → has_over addr m (before ++ lease ∷ behind) ≡ true → has_over addr m (before ++ behind) ≡ false → lease.end ≤ m
own_over addr m before behind lease over none =
    let so : over_so addr m lease ≡ true = only_bool (has_over addr m before) (has_over addr m behind) (over_so addr m lease) (sym (over-append addr m before behind) ∙ none) (sym (over-append addr m before (lease ∷ behind)) ∙ over) in
    leb-true lease.end m (and_parts (lease.addr == addr) (leb lease.end m) so).1

-- none is over where no expiry is
not_over : (addr m : ℕ) (leases : List Lease) → ((e : ℕ) → has_end e addr leases ≡ true → m < e) → has_over addr m leases ≡ false
not_over addr m [] all = refl
not_over addr m (x ∷ xs) all =
    ⊎_elim
    (λ own.
    ⊎_elim
    (λ over. absurd (omega (arith, leb-true x.end m over, all x.end (rw own (rw (eq-eqb x.end x.end refl) refl)))))
    (λ live. rw own (rw live (not_over addr m xs (λ e there. all e (or_right ((x.addr == addr) && (x.end == e)) (has_end e addr xs) there)))))
    (cases_Bool (leb x.end m)))
    (λ other. rw other (not_over addr m xs (λ e there. all e (or_right ((x.addr == addr) && (x.end == e)) (has_end e addr xs) there))))
    (cases_Bool (x.addr == addr))

pub none_is_over : (addr m : ℕ) (name : NameValue) (es : Entries) (ds : List Due) → Agrees es ds → ((d : Due) → in_set ds d ≡ true → m < d.end) → has_over addr m (members_of es name) ≡ false
none_is_over addr m name es ds h live = not_over addr m (members_of es name) (λ e there. live (due e name addr) (h.agree (due e name addr) ∙ there))

-- it goes: what lives is as before
pub record WithoutOver (addr m : ℕ) (name : NameValue) (es fs : Entries) : Type 0 where
  pub same : living m fs ≡ living m es
  pub none : has_over addr m (members_of fs name) ≡ false

over_ended : (addr m : ℕ) (name : NameValue) (es fs : Entries) → has_over addr m (members_of es name) ≡ true → HasNone addr (members_of fs name) → Ended (members_of es) name addr (members_of fs) → WithoutOver addr m name es fs
over_ended addr m name es fs over left e =
    let left_is : members_of fs name ≡ e.before ++ e.behind = ap (λ (f : Leases). f name) e.after_is ∙ here name (e.before ++ e.behind) (members_of es) in
    let none : has_over addr m (members_of fs name) ≡ false = none_over addr m (members_of fs name) left in
    let over_is : e.lease.end ≤ m = own_over addr m e.before e.behind e.lease (sym (ap (has_over addr m) e.member.is) ∙ over) (sym (ap (has_over addr m) left_is) ∙ none) in
    record { same = same_leases (living m fs) (living m es) (live_stays m es (members_of fs) name e.before e.behind e.lease e.member.is over_is e.after_is); none = none }

pub ends_over : (r : Bool) (addr m : ℕ) (name : NameValue) (es fs : Entries) → has_over addr m (members_of es name) ≡ true → HasNone addr (members_of fs name)
    → (IsTrue r → Ended (members_of es) name addr (members_of fs)) → OnFalse r (HasNone addr (members_of es name)) → WithoutOver addr m name es fs
ends_over true addr m name es fs over left ended none = over_ended addr m name es fs over left (ended refl)
ends_over false addr m name es fs over left ended none = absurd (both_ways (has_over addr m (members_of es name)) (none_over addr m (members_of es name) none) over)

-- ---- a member that lives is renewed, or ends

lives_among : (m : ℕ) (before behind : List Lease) (lease : Lease) → m < lease.end → filter (is_live m) (before ++ lease ∷ behind) ≡ filter (is_live m) before ++ lease ∷ filter (is_live m) behind
lives_among m before behind lease live =
    filter-append (is_live m) before (lease ∷ behind) ∙ ap (λ (ls : List Lease). filter (is_live m) before ++ ls) (live_front m lease behind (lt-ltb m lease.end live))

member_lives : (addr m : ℕ) (leases before : List Lease) (lease : Lease) (behind : List Lease) → IsMember addr leases before lease behind → m < lease.end → IsMember addr (filter (is_live m) leases) (filter (is_live m) before) lease (filter (is_live m) behind)
member_lives addr m leases before lease behind is live = record { is = ap (filter (is_live m)) is.is ∙ lives_among m before behind lease live; owner_is = is.owner_is }

live_chosen : (m : ℕ) (b : Bool) (xs ys : List Lease) → filter (is_live m) (cond b xs ys) ≡ cond b (filter (is_live m) xs) (filter (is_live m) ys)
live_chosen m true xs ys = refl
live_chosen m false xs ys = refl

living_at : (m : ℕ) (name : NameValue) (leases : List Lease) (es fs : Entries) → members_of fs ≡ at_name name leases (members_of es) → living m fs ≡ at_name name (filter (is_live m) leases) (living m es)
living_at m name leases es fs is =
    same_leases (living m fs) (at_name name (filter (is_live m) leases) (living m es))
    (λ q. ap (λ (f : Leases). filter (is_live m) (f q)) is ∙ live_chosen m (same_name q name) leases (members_of es q))

-- none of the requester's is over
module _ (addr m : ℕ) (name : NameValue) (es fs : Entries) (none : has_over addr m (members_of es name) ≡ false) where
  pub renewed_lives : (end until : ℕ) → Renewed (members_of es) name addr end until (members_of fs) → Renewed (living m es) name addr end until (living m fs)
  renewed_lives end until r =
      let live : m < r.lease.end = own_lives addr m (members_of es name) r.before r.lease r.behind r.member none in
      let new : Lease = record r.lease { end = until } in
      record {
        before = filter (is_live m) r.before;
        lease = r.lease;
        behind = filter (is_live m) r.behind;
        member = member_lives addr m (members_of es name) r.before r.lease r.behind r.member live;
        until_is = r.until_is;
        after_is =
            living_at m name (r.before ++ new ∷ r.behind) es fs r.after_is
            ∙ ap (λ (ls : List Lease). at_name name ls (living m es)) (lives_among m r.before r.behind new (omega (arith, live, r.until_is)));
      }

  pub moves_live : (end : ℕ) → Moves (members_of es) name addr end → Moves (living m es) name addr end
  moves_live end r =
      let live : m < r.lease.end = own_lives addr m (members_of es name) r.before r.lease r.behind r.member none in
      record {
        before = filter (is_live m) r.before;
        lease = r.lease;
        behind = filter (is_live m) r.behind;
        member = member_lives addr m (members_of es name) r.before r.lease r.behind r.member live;
        later = r.later;
      }

  pub ended_lives : Ended (members_of es) name addr (members_of fs) → Ended (living m es) name addr (living m fs)
  ended_lives r =
      let live : m < r.lease.end = own_lives addr m (members_of es name) r.before r.lease r.behind r.member none in
      record {
        before = filter (is_live m) r.before;
        lease = r.lease;
        behind = filter (is_live m) r.behind;
        member = member_lives addr m (members_of es name) r.before r.lease r.behind r.member live;
        after_is =
            living_at m name (r.before ++ r.behind) es fs r.after_is ∙ ap (λ (ls : List Lease). at_name name ls (living m es)) (filter-append (is_live m) r.before r.behind);
      }

-- a lease begins behind those that live, and maybe behind others
pub begun_lives : (m : ℕ) (name : NameValue) (lease : Lease) (es fs : Entries) → m < lease.end → members_of fs ≡ at_name name (members_of es name ++ lease ∷ []) (members_of es) → living m fs ≡ at_name name (living m es name ++ lease ∷ []) (living m es)
begun_lives m name lease es fs live is =
    living_at m name (members_of es name ++ lease ∷ []) es fs is ∙ ap (λ (ls : List Lease). at_name name ls (living m es)) (lives_among m (members_of es name) [] lease live)
