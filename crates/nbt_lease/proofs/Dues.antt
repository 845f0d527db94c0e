-- Expiries of leases: one is another if its parts are, as the order says too.
use Rattle.std.proofs.Common.{◌≡◌, ◌==◌, ◌<◌, ◌≤◌, Bool, true, false, ◌&&◌, cond, length, List, Option, Some, None, [], ◌∷◌, refl, sym, ap, ◌∙◌, subst, ⊎_elim, arith}
use Rattle.nbt_lease.proofs.Common.{nat_cmp, ordering_then, is_eq, is_gt, Ordering, Less, Equal, Greater, tied_then, unsigned_tied, IsEquivalence, slice_cmp, list_any, IsDistinct, IfSome, IsStrictlySortedBy, cases_Bool, both_ways, false_from_ne_true, and_parts, and_from, is_eq-slice_cmp, IsDistinct-from_sorted, le_from_not_gt, NameValue, same_name, Due, is_due, in_set, eqb-true, eq-eqb}
use Rattle.nbt_name.proofs.Same.{same_name-true, same_name-same}

pub some_weaker : (r : Option Due) (P Q : Due → Type 0) → ((d : Due) → P d → Q d) → IfSome r P → IfSome r Q
some_weaker None P Q weaker h = h
some_weaker (Some d) P Q weaker h = weaker d h

-- ---- equality

pub due_is : (a b : Due) → is_due a b ≡ true → a ≡ b
due_is a b h =
    let parts = and_parts (same_name a.name b.name) ((a.addr == b.addr) && (a.end == b.end)) h in
    let numbers = and_parts (a.addr == b.addr) (a.end == b.end) parts.1 in
    let name : a.name ≡ b.name = same_name-true a.name b.name parts.0 in
    let addr : a.addr ≡ b.addr = eqb-true a.addr b.addr numbers.0 in
    let end : a.end ≡ b.end = eqb-true a.end b.end numbers.1 in
    λ i. record { end = end i; name = name i; addr = addr i }

pub due_again : (a : Due) → is_due a a ≡ true
due_again a = and_from (same_name a.name a.name) ((a.addr == a.addr) && (a.end == a.end)) (same_name-same a.name) (and_from (a.addr == a.addr) (a.end == a.end) (eq-eqb a.addr a.addr refl) (eq-eqb a.end a.end refl))

due_turned : (a b : Due) → is_due a b ≡ is_due b a
due_turned a b =
    ⊎_elim
    (λ same. same ∙ sym (ap (λ (d : Due). is_due d a) (sym (due_is a b same)) ∙ due_again a))
    (λ other. other ∙ sym (false_from_ne_true (is_due b a) (λ same. both_ways (is_due a b) other (ap (λ (d : Due). is_due d b) (sym (due_is b a same)) ∙ due_again b))))
    (cases_Bool (is_due a b))

pub due_equiv : IsEquivalence is_due
due_equiv = record { refl = due_again; symm = due_turned; congr = λ x y z h. ap (λ (d : Due). is_due d z) (due_is x y h) }

-- whichever of two is looked for
pub member_is : (ends : List Due) (d : Due) → list_any (is_due d) ends ≡ in_set ends d
member_is ends d = ap (λ (test : Due → Bool). list_any test ends) (λ i e. due_turned d e i)

-- ---- the order

abbrev pub name_cmp : NameValue → NameValue → Ordering
name_cmp a b = ordering_then (slice_cmp nat_cmp a.octets b.octets) (slice_cmp nat_cmp a.scope b.scope)

abbrev pub due_cmp : Due → Due → Ordering
due_cmp a b = ordering_then (nat_cmp a.end b.end) (ordering_then (name_cmp a.name b.name) (nat_cmp a.addr b.addr))

turned_round : (e n a : Bool) → (e && (n && a)) ≡ (n && (a && e))
turned_round true true true = refl
turned_round true true false = refl
turned_round true false true = refl
turned_round true false false = refl
turned_round false true true = refl
turned_round false true false = refl
turned_round false false true = refl
turned_round false false false = refl

name_tied : (a b : NameValue) → is_eq (name_cmp a b) ≡ same_name a b
name_tied a b = sym (tied_then (slice_cmp nat_cmp a.octets b.octets) (slice_cmp nat_cmp a.scope b.scope)) ∙ (λ i. is_eq-slice_cmp a.octets b.octets i && is_eq-slice_cmp a.scope b.scope i)

rest_tied : (a b : Due) → is_eq (ordering_then (name_cmp a.name b.name) (nat_cmp a.addr b.addr)) ≡ (same_name a.name b.name && (a.addr == b.addr))
rest_tied a b = sym (tied_then (name_cmp a.name b.name) (nat_cmp a.addr b.addr)) ∙ (λ i. name_tied a.name b.name i && unsigned_tied a.addr b.addr i)

pub due_tied : (a b : Due) → is_eq (due_cmp a b) ≡ is_due a b
due_tied a b =
    sym (tied_then (nat_cmp a.end b.end) (ordering_then (name_cmp a.name b.name) (nat_cmp a.addr b.addr)))
    ∙ ((λ i. unsigned_tied a.end b.end i && rest_tied a b i) ∙ turned_round (a.end == b.end) (same_name a.name b.name) (a.addr == b.addr))

-- what the ordered set says of a key, by the parts of the key
pub set_is : (ends : List Due) (d : Due) → list_any (λ e. is_eq (due_cmp d e)) ends ≡ in_set ends d
set_is ends d = ap (λ (test : Due → Bool). list_any test ends) (λ i e. due_tied d e i) ∙ member_is ends d

-- a change of one key
pub set_changes : (old new : List Due) (d : Due) (b : Bool) → ((q : Due) → list_any (λ e. is_eq (due_cmp q e)) new ≡ cond (is_eq (due_cmp d q)) b (list_any (λ e. is_eq (due_cmp q e)) old))
    → (q : Due) → in_set new q ≡ cond (is_due d q) b (in_set old q)
set_changes old new d b h q = sym (set_is new q) ∙ (h q ∙ (λ i. cond (due_tied d q i) b (set_is old q i)))

pub none_in : (ends : List Due) (d : Due) → (0 < length ends → ⊥) → in_set ends d ≡ true → ⊥
none_in [] d empty there = cc
none_in (x ∷ xs) d empty there = empty (omega arith)

pub set_distinct : (ends : List Due) → IsStrictlySortedBy due_cmp ends → IsDistinct is_due ends
set_distinct ends sorted = subst (λ (same : Due → Due → Bool). IsDistinct same ends) (λ i a b. due_tied a b i) (IsDistinct-from_sorted due_cmp ends sorted)

first_of : (a b : Ordering) → is_gt (ordering_then a b) ≡ false → is_gt a ≡ false
first_of Less b h = h
first_of Equal b h = refl
first_of Greater b h = h

-- the first of all expiries first
pub no_earlier : (a b : Due) → is_gt (due_cmp a b) ≡ false → a.end ≤ b.end
no_earlier a b h = le_from_not_gt a.end b.end (first_of (nat_cmp a.end b.end) (ordering_then (name_cmp a.name b.name) (nat_cmp a.addr b.addr)) h)
