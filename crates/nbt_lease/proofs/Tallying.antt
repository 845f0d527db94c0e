-- How many expiries are of an address, after each change of the set.
use Rattle.std.proofs.Common.{◌≡◌, ℕ, ◌+◌, ◌-◌, ◌<◌, ◌≤◌, Bool, true, false, Option, Some, None, ◌&&◌, ◌||◌, cond, List, [], ◌∷◌, length, refl, sym, ap, ◌∙◌, subst, ⊎_elim, arith}
use Rattle.std.specs.Prelude.{nat_eq, slice_get, IsSome, ◌↔◌}
use Rattle.std.specs.List.{IsDistinct}
use Rattle.std.proofs.lemmas.Map.Views.{any-filter_same}
use Rattle.nbt_lease.proofs.Common.{filter, list_any, AllByRecursion, IfSome, cases_Bool, cond-true, cond-false, lt-ltb, or_right, false≢true, IsDistinct-cons, IsDistinct-head, IsDistinct-tail, length-from_same_keys, Due, Rows, Entries, rows_of, due, is_due, in_set, is_live, is_live_of, Agrees}
use Rattle.nbt_lease.specs.Lease.{count_of}
use Rattle.nbt_lease.proofs.Dues.{due_equiv, due_is, member_is}
use Rattle.nbt_lease.proofs.Flat.{none_passes, dues_of, dues_are, dues_apart}
use Rattle.nbt_lease.proofs.Owned.{none_of, row_counts, row_passes}
use Rattle.nbt_lease.specs.Inner.Tally.{dues_of_client}

-- whether the expiry is of this address
abbrev is_of : ℕ → Due → Bool
is_of addr d = nat_eq d.addr addr

filter_all : (P : Due → Type 0) (test : Due → Bool) (ds : List Due) → AllByRecursion P ds → AllByRecursion P (filter test ds)
filter_all P test [] all = tt
filter_all P test (d ∷ ds) all =
    ⊎_elim
    (λ kept. rw kept (all.0, filter_all P test ds all.1))
    (λ gone. rw gone (filter_all P test ds all.1))
    (cases_Bool (test d))

filter_once : (test : Due → Bool) (ds : List Due) → IsDistinct is_due ds → IsDistinct is_due (filter test ds)
filter_once test [] once = once
filter_once test (d ∷ ds) once =
    let rest = filter_once test ds (IsDistinct-tail is_due d ds once) in
    ⊎_elim
    (λ kept. rw kept (IsDistinct-cons is_due d (filter test ds) (filter_all (λ x. is_due d x ≡ false) test ds (IsDistinct-head is_due d ds once)) rest))
    (λ gone. rw gone rest)
    (cases_Bool (test d))

-- a set with as many of each address
pub same_dues : (addr : ℕ) (xs ys : List Due) → IsDistinct is_due xs → IsDistinct is_due ys → ((q : Due) → in_set xs q ≡ in_set ys q) → dues_of_client addr xs ≡ dues_of_client addr ys
same_dues addr xs ys once twice same =
    length-from_same_keys due_equiv (filter (is_of addr) xs) (filter (is_of addr) ys) (filter_once (is_of addr) xs once) (filter_once (is_of addr) ys twice)
    (λ q. found xs q ∙ (ap (λ (b : Bool). is_of addr q && b) (member_is xs q ∙ (same q ∙ sym (member_is ys q))) ∙ sym (found ys q)))
  where
    found : (ds : List Due) (q : Due) → list_any (is_due q) (filter (is_of addr) ds) ≡ (is_of addr q && list_any (is_due q) ds)
    found ds q = any-filter_same (is_due q) (is_of addr) (is_of addr q) (λ k same. ap (is_of addr) (sym (due_is q k same))) ds

in_front : (a : ℕ) (d : Due) (ds : List Due) → dues_of_client a (d ∷ ds) ≡ cond (nat_eq d.addr a) (dues_of_client a ds + 1) (dues_of_client a ds)
in_front a d ds =
    ⊎_elim
    (λ own. rw own (omega arith))
    (λ other. rw other refl)
    (cases_Bool (nat_eq d.addr a))

either : (b x : Bool) → cond b true x ≡ (b || x)
either true x = refl
either false x = refl

-- one expiry more
pub one_due_more : (old new : List Due) (d : Due) → IsDistinct is_due old → IsDistinct is_due new → in_set old d ≡ false → ((q : Due) → in_set new q ≡ cond (is_due d q) true (in_set old q))
    → (a : ℕ) → dues_of_client a new ≡ cond (nat_eq d.addr a) (dues_of_client a old + 1) (dues_of_client a old)
one_due_more old new d once after absent set a =
    same_dues a new (d ∷ old) after (IsDistinct-cons is_due d old (none_passes (is_due d) old (member_is old d ∙ absent)) once) (λ q. set q ∙ either (is_due d q) (in_set old q))
    ∙ in_front a d old

-- one expiry fewer
pub one_due_fewer : (old new : List Due) (d : Due) → IsDistinct is_due old → IsDistinct is_due new → in_set old d ≡ true → ((q : Due) → in_set new q ≡ cond (is_due d q) false (in_set old q))
    → (a : ℕ) → dues_of_client a new ≡ cond (nat_eq d.addr a) (dues_of_client a old - 1) (dues_of_client a old)
one_due_fewer old new d once after there set a =
    let more = one_due_more new old d after once (set d ∙ cond-true (is_due d d) false (in_set old d) (due_equiv.refl d)) back a in
    ⊎_elim
    (λ own. let e = more ∙ cond-true (nat_eq d.addr a) (dues_of_client a new + 1) (dues_of_client a new) own in
    omega (arith, e) ∙ sym (cond-true (nat_eq d.addr a) (dues_of_client a old - 1) (dues_of_client a old) own))
    (λ other. sym (more ∙ cond-false (nat_eq d.addr a) (dues_of_client a new + 1) (dues_of_client a new) other) ∙ sym (cond-false (nat_eq d.addr a) (dues_of_client a old - 1) (dues_of_client a old) other))
    (cases_Bool (nat_eq d.addr a))
  where
    back : (q : Due) → in_set old q ≡ cond (is_due d q) true (in_set new q)
    back q =
        ⊎_elim
        (λ same. subst (λ (x : Due). in_set old x ≡ true) (due_is d q same) there ∙ sym (cond-true (is_due d q) true (in_set new q) same))
        (λ other. sym (set q ∙ cond-false (is_due d q) false (in_set old q) other) ∙ sym (cond-false (is_due d q) true (in_set new q) other))
        (cases_Bool (is_due d q))

-- the first expiry gone
pub first_is : (r : Option Due) (old new : List Due) (d : Due) → slice_get old 0 ≡ Some d → (IsSome r ↔ (0 < length old)) → IfSome r (λ k. old ≡ k ∷ new) → old ≡ d ∷ new
first_is r [] new d first some taken = absurd cc
first_is None (x ∷ xs) new d first some taken = absurd (false≢true (some.1 (omega arith)))
first_is (Some k) (x ∷ xs) new d first some taken = cc

pub first_gone : (old new : List Due) (d : Due) → old ≡ d ∷ new → (a : ℕ) → dues_of_client a new ≡ cond (nat_eq d.addr a) (dues_of_client a old - 1) (dues_of_client a old)
first_gone old new d is a =
    let more = ap (dues_of_client a) is ∙ in_front a d new in
    ⊎_elim
    (λ own. let e = more ∙ cond-true (nat_eq d.addr a) (dues_of_client a new + 1) (dues_of_client a new) own in
    omega (arith, e) ∙ sym (cond-true (nat_eq d.addr a) (dues_of_client a old - 1) (dues_of_client a old) own))
    (λ other. sym (more ∙ cond-false (nat_eq d.addr a) (dues_of_client a new + 1) (dues_of_client a new) other) ∙ sym (cond-false (nat_eq d.addr a) (dues_of_client a old - 1) (dues_of_client a old) other))
    (cases_Bool (nat_eq d.addr a))

-- what was there is there, with one more
pub still_there : (b x : Bool) → x ≡ true → cond b true x ≡ true
still_there true x there = refl
still_there false x there = there

-- one more and one fewer
pub back_again : (b : Bool) (n : ℕ) → cond b (cond b (n + 1) n - 1) (cond b (n + 1) n) ≡ n
back_again true n = omega arith
back_again false n = refl

-- ---- the leases of an address that live, and its expiries

rows_at_most : (m addr : ℕ) (rows : Rows) → count_of m addr rows ≤ dues_of_client addr (dues_of rows)
rows_at_most m addr [] = omega (arith, none_of m addr)
rows_at_most m addr (row ∷ rows) =
    let rest = rows_at_most m addr rows in
    let d : Due = due row.1.end row.0 row.1.addr in
    let front = in_front addr d (dues_of rows) in
    ⊎_elim
    (λ own.
    let more = front ∙ cond-true (nat_eq d.addr addr) (dues_of_client addr (dues_of rows) + 1) (dues_of_client addr (dues_of rows)) own in
    ⊎_elim
    (λ counts. omega (arith, rest, more, row_counts m addr row rows counts))
    (λ passes. omega (arith, rest, more, row_passes m addr row rows passes))
    (cases_Bool (is_live_of addr m row.1)))
    (λ other.
    let same = front ∙ cond-false (nat_eq d.addr addr) (dues_of_client addr (dues_of rows) + 1) (dues_of_client addr (dues_of rows)) other in
    let none : is_live_of addr m row.1 ≡ false = ap (λ (b : Bool). b && is_live m row.1) other in
    omega (arith, rest, same, row_passes m addr row rows none))
    (cases_Bool (nat_eq row.1.addr addr))

rows_all : (m addr : ℕ) (rows : Rows) → ((d : Due) → in_set (dues_of rows) d ≡ true → m < d.end) → count_of m addr rows ≡ dues_of_client addr (dues_of rows)
rows_all m addr [] live = none_of m addr
rows_all m addr (row ∷ rows) live =
    let d : Due = due row.1.end row.0 row.1.addr in
    let rest = rows_all m addr rows (λ q there. live q (or_right (is_due d q) (in_set (dues_of rows) q) there)) in
    let lives : is_live m row.1 ≡ true = lt-ltb m row.1.end (live d (ap (λ (b : Bool). b || in_set (dues_of rows) d) (due_equiv.refl d))) in
    let front = in_front addr d (dues_of rows) in
    ⊎_elim
    (λ own.
    let more = front ∙ cond-true (nat_eq d.addr addr) (dues_of_client addr (dues_of rows) + 1) (dues_of_client addr (dues_of rows)) own in
    let counts : is_live_of addr m row.1 ≡ true = (λ i. own i && lives i) in
    omega (arith, rest, more, row_counts m addr row rows counts))
    (λ other.
    let same = front ∙ cond-false (nat_eq d.addr addr) (dues_of_client addr (dues_of rows) + 1) (dues_of_client addr (dues_of rows)) other in
    let none : is_live_of addr m row.1 ≡ false = ap (λ (b : Bool). b && is_live m row.1) other in
    omega (arith, rest, same, row_passes m addr row rows none))
    (cases_Bool (nat_eq row.1.addr addr))

all_dues : (es : Entries) (ds : List Due) → Agrees es ds → (q : Due) → in_set ds q ≡ in_set (dues_of (rows_of es)) q
all_dues es ds h q = h.agree q ∙ sym (dues_are es q h.names)

whole : (addr : ℕ) (es : Entries) (ds : List Due) → Agrees es ds → dues_of_client addr ds ≡ dues_of_client addr (dues_of (rows_of es))
whole addr es ds h = same_dues addr ds (dues_of (rows_of es)) h.once (dues_apart es h.names h.apart) (all_dues es ds h)

-- no more live than there are
pub live_at_most : (m addr : ℕ) (es : Entries) (ds : List Due) → Agrees es ds → count_of m addr (rows_of es) ≤ dues_of_client addr ds
live_at_most m addr es ds h = omega (arith, rows_at_most m addr (rows_of es), whole addr es ds h)

-- all live where none is over
pub all_live_of : (m addr : ℕ) (es : Entries) (ds : List Due) → Agrees es ds → ((d : Due) → in_set ds d ≡ true → m < d.end) → count_of m addr (rows_of es) ≡ dues_of_client addr ds
all_live_of m addr es ds h live = rows_all m addr (rows_of es) (λ d there. live d (all_dues es ds h d ∙ there)) ∙ sym (whole addr es ds h)
