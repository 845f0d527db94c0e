-- The set of expiries agrees with the map after each change of both.
use Rattle.std.proofs.Common.{◌≡◌, ◌==◌, ◌≢◌, ℕ, ◌≤◌, Bool, true, false, ◌&&◌, ◌||◌, cond, List, [], ◌∷◌, ◌++◌, Option, Some, None, Result, Ok, Err, OnOk, OnErr, unwrap_or, refl, sym, ap, ◌∙◌, subst, ⊎_elim}
use Rattle.nbt_lease.proofs.Common.{filter, lookup, keys_of, set_value, set_value_same, IfSome, IfNone, cases_Bool, cond-true, cond-false, both_ways, and_parts, NameValue, same_name, Lease, Due, is_live, at_name, HasNone, AreApart, Entries, members_of, due, is_due, in_set, has_end, Agrees, IsMember, if_any, TakenFrom, eqb-true, eq-eqb}
use Rattle.std.specs.List.{IsDistinct}
use Rattle.nbt_name.proofs.Same.{same_name-true, same_name-same, same_name-turned}
use Rattle.nbt_lease.proofs.Rows.{same_leases}
use Rattle.nbt_lease.proofs.Sound.{apart_push, apart_replaced, apart_without}
use Rattle.nbt_lease.proofs.Others.{some_there}
use Rattle.nbt_lease.proofs.Flat.{live_stays}
use Rattle.nbt_lease.proofs.Ending.{ends_so, ends-append, ends-push, ends-without, ends-renewed, no_end, none_beside}

pub none_distinct : {K : Type 0} (same : K → K → Bool) → IsDistinct same []
unfolding IsDistinct
none_distinct same = tt

-- ---- one name changes

filled_at : (k : NameValue) (w x : Option (List Lease)) (q : NameValue) (y : Option (List Lease)) → y ≡ cond (same_name k q) w x → w ≢ Some [] → x ≢ Some [] → y ≢ Some []
filled_at k w x q y is some others empty =
    ⊎_elim
    (λ named. some (sym (is ∙ cond-true (same_name k q) w x named) ∙ empty))
    (λ other. others (sym (is ∙ cond-false (same_name k q) w x other) ∙ empty))
    (cases_Bool (same_name k q))

pub changes_one : (es fs : Entries) (ds gs : List Due) (k : NameValue) (w : Option (List Lease)) → Agrees es ds → IsDistinct same_name (keys_of fs) → IsDistinct is_due gs
    → ((q : NameValue) → lookup (same_name q) fs ≡ cond (same_name k q) w (lookup (same_name q) es)) → w ≢ Some [] → AreApart (unwrap_or w [])
    → ((d : Due) → same_name k d.name ≡ false → in_set gs d ≡ in_set ds d) → ((e a : ℕ) → in_set gs (due e k a) ≡ has_end e a (unwrap_or w [])) → Agrees fs gs
changes_one es fs ds gs k w h names ends map some apart others here = record {
  names = names;
  filled = λ q. filled_at k w (lookup (same_name q) es) q (lookup (same_name q) fs) (map q) some (h.filled q);
  apart = λ q.
      ⊎_elim
      (λ named. subst (λ (o : Option (List Lease)). AreApart (unwrap_or o [])) (sym (map q ∙ cond-true (same_name k q) w (lookup (same_name q) es) named)) apart)
      (λ other. subst (λ (o : Option (List Lease)). AreApart (unwrap_or o [])) (sym (map q ∙ cond-false (same_name k q) w (lookup (same_name q) es) other)) (h.apart q))
      (cases_Bool (same_name k q));
  once = ends;
  agree = λ d.
      ⊎_elim
      (λ named. subst (λ (n : NameValue). in_set gs (due d.end n d.addr) ≡ has_end d.end d.addr (members_of fs n)) (same_name-true k d.name named)
      (here d.end d.addr ∙ ap (λ (o : Option (List Lease)). has_end d.end d.addr (unwrap_or o [])) (sym (map k ∙ cond-true (same_name k k) w (lookup (same_name k) es) (same_name-same k)))))
      (λ other. others d other ∙ (h.agree d ∙ ap (λ (o : Option (List Lease)). has_end d.end d.addr (unwrap_or o [])) (sym (map d.name ∙ cond-false (same_name k d.name) w (lookup (same_name d.name) es) other))))
      (cases_Bool (same_name k d.name));
}

-- a test of an expiry of this name, at another and at this name
elsewhere : (e a : ℕ) (k : NameValue) (b x : Bool) (d : Due) → same_name k d.name ≡ false → cond (is_due (due e k a) d) b x ≡ x
elsewhere e a k b x d other = rw other refl

at_home : (e a f c : ℕ) (k : NameValue) (b x : Bool) → cond (is_due (due e k a) (due f k c)) b x ≡ cond ((a == c) && (e == f)) b x
at_home e a f c k b x = rw (same_name-same k) refl

some_push : (leases : List Lease) (lease : Lease) (behind : List Lease) → Some (leases ++ lease ∷ behind) ≢ Some []
some_push leases lease behind e = some_there leases behind lease (ap (λ (o : Option (List Lease)). unwrap_or o []) e)

some_if_any : (leases : List Lease) → if_any leases ≢ Some []
some_if_any [] e = cc
some_if_any (x ∷ xs) e = some_there [] xs x (ap (λ (o : Option (List Lease)). unwrap_or o []) e)

pub if_any_is : (leases : List Lease) → unwrap_or (if_any leases) [] ≡ leases
if_any_is [] = refl
if_any_is (x ∷ xs) = refl

-- ---- a lease begins, ends, is renewed; or all stays

pub begins : (es fs : Entries) (ds gs : List Due) (k : NameValue) (l : Lease) → Agrees es ds → IsDistinct same_name (keys_of fs) → IsDistinct is_due gs → HasNone l.addr (members_of es k)
    → ((q : NameValue) → lookup (same_name q) fs ≡ cond (same_name k q) (Some (members_of es k ++ l ∷ [])) (lookup (same_name q) es))
    → ((d : Due) → in_set gs d ≡ cond (is_due (due l.end k l.addr) d) true (in_set ds d)) → Agrees fs gs
begins es fs ds gs k l h names ends none map set =
    changes_one es fs ds gs k (Some (members_of es k ++ l ∷ [])) h names ends map (some_push (members_of es k) l []) (apart_push (members_of es k) l none (h.apart k))
    (λ d other. set d ∙ elsewhere l.end l.addr k true (in_set ds d) d other)
    (λ e a. set (due e k a) ∙ (at_home l.end l.addr e a k true (in_set ds (due e k a)) ∙ (ap (cond (ends_so e a l) true) (h.agree (due e k a)) ∙ ends-push e a (members_of es k) l)))

pub goes : (es fs : Entries) (ds gs : List Due) (k : NameValue) (addr : ℕ) (before behind : List Lease) (l : Lease) → Agrees es ds → IsDistinct same_name (keys_of fs) → IsDistinct is_due gs → IsMember addr (members_of es k) before l behind
    → ((q : NameValue) → lookup (same_name q) fs ≡ cond (same_name k q) (if_any (before ++ behind)) (lookup (same_name q) es))
    → ((d : Due) → in_set gs d ≡ cond (is_due (due l.end k l.addr) d) false (in_set ds d)) → Agrees fs gs
goes es fs ds gs k addr before behind l h names ends member map set =
    let apart : AreApart (before ++ l ∷ behind) = subst AreApart member.is (h.apart k) in
    changes_one es fs ds gs k (if_any (before ++ behind)) h names ends map (some_if_any (before ++ behind)) (subst AreApart (sym (if_any_is (before ++ behind))) (apart_without before behind l apart))
    (λ d other. set d ∙ elsewhere l.end l.addr k false (in_set ds d) d other)
    (λ e a. set (due e k a) ∙ (at_home l.end l.addr e a k false (in_set ds (due e k a)) ∙ (ap (cond (ends_so e a l) false) (h.agree (due e k a) ∙ ap (has_end e a) member.is)
    ∙ (ends-without e a before behind l apart ∙ ap (has_end e a) (sym (if_any_is (before ++ behind)))))))

pub renews : (es fs : Entries) (ds gs : List Due) (k : NameValue) (addr new : ℕ) (before behind : List Lease) (l : Lease) → Agrees es ds → IsDistinct same_name (keys_of fs) → IsDistinct is_due gs → IsMember addr (members_of es k) before l behind → new ≢ l.end
    → ((q : NameValue) → lookup (same_name q) fs ≡ cond (same_name k q) (Some (before ++ record l { end = new } ∷ behind)) (lookup (same_name q) es))
    → ((d : Due) → in_set gs d ≡ cond (is_due (due l.end k l.addr) d) false (cond (is_due (due new k l.addr) d) true (in_set ds d))) → Agrees fs gs
renews es fs ds gs k addr new before behind l h names ends member other map set =
    let m : Lease = record l { end = new } in
    let apart : AreApart (before ++ l ∷ behind) = subst AreApart member.is (h.apart k) in
    changes_one es fs ds gs k (Some (before ++ m ∷ behind)) h names ends map (some_push before m behind) (apart_replaced before behind l m refl apart)
    (λ d apart_name. set d ∙ (elsewhere l.end l.addr k false (cond (is_due (due new k l.addr) d) true (in_set ds d)) d apart_name ∙ elsewhere new l.addr k true (in_set ds d) d apart_name))
    (λ e a. set (due e k a) ∙ (at_home l.end l.addr e a k false (cond (is_due (due new k l.addr) (due e k a)) true (in_set ds (due e k a)))
    ∙ (ap (cond (ends_so e a l) false) (at_home new l.addr e a k true (in_set ds (due e k a)) ∙ ap (cond (ends_so e a m) true) (h.agree (due e k a) ∙ ap (has_end e a) member.is))
    ∙ ends-renewed e a new before behind l apart other)))

pub stays : (es fs : Entries) (ds gs : List Due) → Agrees es ds → IsDistinct same_name (keys_of fs) → IsDistinct is_due gs
    → ((q : NameValue) → lookup (same_name q) fs ≡ lookup (same_name q) es) → ((d : Due) → in_set gs d ≡ in_set ds d) → Agrees fs gs
stays es fs ds gs h names ends map set = record {
  names = names;
  filled = λ q empty. h.filled q (sym (map q) ∙ empty);
  apart = λ q. subst (λ (o : Option (List Lease)). AreApart (unwrap_or o [])) (sym (map q)) (h.apart q);
  once = ends;
  agree = λ d. set d ∙ (h.agree d ∙ ap (λ (o : Option (List Lease)). has_end d.end d.addr (unwrap_or o [])) (sym (map d.name)));
}

-- ---- which ends the set has

pub absent : (es : Entries) (ds : List Due) (k : NameValue) (end addr : ℕ) → Agrees es ds → HasNone addr (members_of es k) → in_set ds (due end k addr) ≡ false
absent es ds k end addr h none = h.agree (due end k addr) ∙ no_end end addr (members_of es k) none

other_bool : (x y : Bool) → (x || y) ≡ false → (x || (false || y)) ≡ false
other_bool true y h = h
other_bool false y h = h

pub other_end : (es : Entries) (ds : List Due) (k : NameValue) (addr new : ℕ) (before behind : List Lease) (l : Lease) → Agrees es ds → IsMember addr (members_of es k) before l behind → (l.end == new) ≡ false → in_set ds (due new k l.addr) ≡ false
other_end es ds k addr new before behind l h member other =
    let apart : AreApart (before ++ l ∷ behind) = subst AreApart member.is (h.apart k) in
    let own : ends_so new l.addr l ≡ false = rw (eq-eqb l.addr l.addr refl, other) refl in
    h.agree (due new k l.addr) ∙ (ap (has_end new l.addr) member.is ∙ (ends-append new l.addr before (l ∷ behind)
    ∙ (ap (λ (b : Bool). has_end new l.addr before || (b || has_end new l.addr behind)) own
    ∙ other_bool (has_end new l.addr before) (has_end new l.addr behind) (sym (ends-append new l.addr before behind) ∙ no_end new l.addr (before ++ behind) (none_beside before behind l apart)))))

own_bool : (x y t : Bool) → t ≡ true → (x || (t || y)) ≡ true
own_bool true y t own = refl
own_bool false y t own = ap (λ (b : Bool). b || y) own

pub own_end : (es : Entries) (ds : List Due) (k : NameValue) (addr : ℕ) (before behind : List Lease) (l : Lease) → Agrees es ds → IsMember addr (members_of es k) before l behind → in_set ds (due l.end k l.addr) ≡ true
own_end es ds k addr before behind l h member =
    let own : ends_so l.end l.addr l ≡ true = rw (eq-eqb l.addr l.addr refl, eq-eqb l.end l.end refl) refl in
    h.agree (due l.end k l.addr) ∙ (ap (has_end l.end l.addr) member.is ∙ (ends-append l.end l.addr before (l ∷ behind)
    ∙ own_bool (has_end l.end l.addr before) (has_end l.end l.addr behind) (ends_so l.end l.addr l) own))

-- ---- the members of each name

name_turned : (a b : NameValue) → same_name a b ≡ same_name b a
name_turned a b =
    ⊎_elim
    (λ named. named ∙ sym (ap (λ (n : NameValue). same_name n a) (sym (same_name-true a b named)) ∙ same_name-same a))
    (λ other. other ∙ sym (same_name-turned a b other))
    (cases_Bool (same_name a b))

chosen : (b : Bool) (w x : Option (List Lease)) → unwrap_or (cond b w x) [] ≡ cond b (unwrap_or w []) (unwrap_or x [])
chosen true w x = refl
chosen false w x = refl

pub members_at : (es fs : Entries) (k : NameValue) (w : Option (List Lease)) → ((q : NameValue) → lookup (same_name q) fs ≡ cond (same_name k q) w (lookup (same_name q) es)) → members_of fs ≡ at_name k (unwrap_or w []) (members_of es)
members_at es fs k w map =
    same_leases (members_of fs) (at_name k (unwrap_or w []) (members_of es))
    (λ q. ap (λ (o : Option (List Lease)). unwrap_or o []) (map q) ∙ (chosen (same_name k q) w (lookup (same_name q) es) ∙ ap (λ (b : Bool). cond b (unwrap_or w []) (members_of es q)) (name_turned k q)))

pub members_stay : (es fs : Entries) → ((q : NameValue) → lookup (same_name q) fs ≡ lookup (same_name q) es) → members_of fs ≡ members_of es
members_stay es fs map = same_leases (members_of fs) (members_of es) (λ q. ap (λ (o : Option (List Lease)). unwrap_or o []) (map q))

-- ---- no leases

pub agrees_none : (es : Entries) (ds : List Due) → es ≡ [] → ds ≡ [] → Agrees es ds
agrees_none es ds none empty = rw (none, empty) (record { names = none_distinct same_name; filled = λ q e. cc; apart = λ q. tt; once = none_distinct is_due; agree = λ d. refl })

-- ---- what is taken out is the end that was due

pub only_bool : (x y t : Bool) → (x || y) ≡ false → (x || (t || y)) ≡ true → t ≡ true
only_bool x y true none there = refl
only_bool x y false none there = absurd (both_ways (x || y) none there)

pub only_end : (end : ℕ) (before behind : List Lease) (lease : Lease) → AreApart (before ++ lease ∷ behind) → has_end end lease.addr (before ++ lease ∷ behind) ≡ true → lease.end ≡ end
only_end end before behind lease apart there =
    let none = sym (ends-append end lease.addr before behind) ∙ no_end end lease.addr (before ++ behind) (none_beside before behind lease apart) in
    let so = only_bool (has_end end lease.addr before) (has_end end lease.addr behind) (ends_so end lease.addr lease) none (sym (ends-append end lease.addr before (lease ∷ behind)) ∙ there) in
    eqb-true lease.end end (and_parts (lease.addr == lease.addr) (lease.end == end) so).1

pub found_out : (r : Option Lease) (P : Lease → Type 0) (N : Type 0) → IfSome r P → IfNone r N → (N → ⊥) → (lease : Lease) × P lease
found_out None P N some none never = absurd (never none)
found_out (Some lease) P N some none never = (lease, some)

-- a member that is due is there
pub due_there : (es : Entries) (ds : List Due) (d : Due) → Agrees es ds → in_set ds d ≡ true → HasNone d.addr (members_of es d.name) → ⊥
due_there es ds d h there none = both_ways (in_set ds d) (h.agree d ∙ no_end d.end d.addr (members_of es d.name) none) there

-- the expiry of a member that was removed
pub due_end : (es fs : Entries) (ds : List Due) (d : Due) (lease : Lease) → Agrees es ds → in_set ds d ≡ true → TakenFrom es fs d.name d.addr lease → d ≡ due lease.end d.name lease.addr
due_end es fs ds d lease h there t =
    let apart : AreApart (t.before ++ lease ∷ t.behind) = subst AreApart t.member.is (h.apart d.name) in
    let has : has_end d.end d.addr (t.before ++ lease ∷ t.behind) ≡ true = sym (ap (has_end d.end d.addr) t.member.is) ∙ (sym (h.agree d) ∙ there) in
    let end : lease.end ≡ d.end = only_end d.end t.before t.behind lease apart (ap (λ (n : ℕ). has_end d.end n (t.before ++ lease ∷ t.behind)) t.member.owner_is ∙ has) in
    λ i. record { end = sym end i; name = d.name; addr = sym t.member.owner_is i }

pub goes_taken : (es fs : Entries) (ds gs : List Due) (k : NameValue) (addr : ℕ) (lease : Lease) → Agrees es ds → IsDistinct same_name (keys_of fs) → IsDistinct is_due gs → TakenFrom es fs k addr lease
    → ((d : Due) → in_set gs d ≡ cond (is_due (due lease.end k lease.addr) d) false (in_set ds d)) → Agrees fs gs
goes_taken es fs ds gs k addr lease h names ends t set = goes es fs ds gs k addr t.before t.behind lease h names ends t.member t.left set

pub pops : (es fs : Entries) (ds gs : List Due) (d : Due) (r : Option Lease) → Agrees es ds → IsDistinct same_name (keys_of fs) → IsDistinct is_due gs → in_set ds d ≡ true
    → IfSome r (λ lease. TakenFrom es fs d.name d.addr lease) → IfNone r (HasNone d.addr (members_of es d.name)) → ((x : Due) → in_set gs x ≡ cond (is_due d x) false (in_set ds x)) → Agrees fs gs
pops es fs ds gs d r h names once there some none set =
    let t = found_out r (λ lease. TakenFrom es fs d.name d.addr lease) (HasNone d.addr (members_of es d.name)) some none (due_there es ds d h there) in
    goes_taken es fs ds gs d.name d.addr t.0 h names once t.1 (λ x. set x ∙ ap (λ (y : Due). cond (is_due y x) false (in_set ds x)) (due_end es fs ds d t.0 h there t.1))

pub pops_live : (m : ℕ) (es fs : Entries) (ds : List Due) (d : Due) (r : Option Lease) → Agrees es ds → in_set ds d ≡ true → d.end ≤ m
    → IfSome r (λ lease. TakenFrom es fs d.name d.addr lease) → IfNone r (HasNone d.addr (members_of es d.name)) → (q : NameValue) → filter (is_live m) (members_of fs q) ≡ filter (is_live m) (members_of es q)
pops_live m es fs ds d r h there over some none =
    let t = found_out r (λ lease. TakenFrom es fs d.name d.addr lease) (HasNone d.addr (members_of es d.name)) some none (due_there es ds d h there) in
    live_stays m es (members_of fs) d.name t.1.before t.1.behind t.0 t.1.member.is (subst (λ (y : Due). y.end ≤ m) (due_end es fs ds d t.0 h there t.1) over)
    (members_at es fs d.name (if_any (t.1.before ++ t.1.behind)) t.1.left ∙ ap (λ (ls : List Lease). at_name d.name ls (members_of es)) (if_any_is (t.1.before ++ t.1.behind)))

-- ---- both outcomes

pub either_way : {T E : Type 0} (r : Result T E) (P Q S U R : Type 0) → OnOk r P → OnOk r Q → OnErr r S → OnErr r U → (P → Q → R) → (S → U → R) → R
either_way (Ok x) P Q S U R p q s u ok err = ok p q
either_way (Err e) P Q S U R p q s u ok err = err s u

pub on_err : {T E : Type 0} (r : Result T E) (P : Type 0) → P → OnErr r P
on_err (Ok x) P p = tt
on_err (Err e) P p = p

pub if_none : {T : Type 0} (r : Option T) (P : Type 0) → P → IfNone r P
if_none None P p = p
if_none (Some x) P p = tt

-- ---- what was read through a loan, and not written

pub unwritten : (es fs old : Entries) (k : NameValue) (w : List Lease) → fs ≡ set_value (same_name k) es w → Some w ≡ lookup (same_name k) es → es ≡ old → fs ≡ old
unwritten es fs old k w is has view = is ∙ (set_value_same (same_name k) es w (sym has) ∙ view)

pub named_is : (es : Entries) (k : NameValue) (w : List Lease) → Some w ≡ lookup (same_name k) es → members_of es k ≡ w
named_is es k w has = ap (λ (o : Option (List Lease)). unwrap_or o []) (sym has)
