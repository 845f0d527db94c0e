-- Leases that are begun from kept rows.
use Rattle.std.specs.Result.{is_err}
use Rattle.std.proofs.Common.{Result, Ok, Err, OnOk, ◌≡◌, ◌≢◌, ℕ, suc, ◌+◌, take, drop, get_or, ◌<◌, ◌≤◌, Bool, true, false, List, [], ◌∷◌, ◌++◌, length, ◌↔◌, refl, sym, ap, ◌∙◌, subst, ◌⊎◌, inl, inr, ⊎_elim, arith}
use Rattle.nbt_lease.proofs.Common.{filter, nil_from_length, false≢true, take_more, take-append-drop, IsDistinct, keys_of, cases_Bool, lt-ltb, le-ltb, length-append, append-nil, NameValue, same_name, Unique, Group, Lease, Rows, Leases, is_live, leases_at, live_count, HasNone, AreApart, AreGroup, AreOneKind, AreSound, members_most, group, unique, Entries, members_of, rows_of, AreLive, HasOne, Standing, StandsIn}
use Rattle.nbt_lease.specs.Inner.Standing.{MayStand}
use Rattle.nbt_lease.proofs.Sound.{all_front, all_behind, all_joined, apart_push, alone}
use Rattle.nbt_lease.proofs.Rows.{same_leases, leases_at-append, live_count-append, row_over, row_of_other, none_live, later_is, count_lives, count_over, none_count}
use Rattle.nbt_lease.proofs.Counts.{same_count, last_at}
use Rattle.nbt_lease.proofs.Others.{here}
use Rattle.nbt_name.proofs.Same.{same_name-true}
use Rattle.nbt_lease.proofs.Agreeing.{none_distinct}
use Rattle.nbt_lease.proofs.Flat.{all_counted, all_live, leases_members, live_left}

-- ---- the first of sound leases are sound

apart_first : (xs ys : List Lease) → AreApart (xs ++ ys) → AreApart xs
apart_first [] ys h = tt
apart_first (x ∷ xs) ys h = (all_front (λ lease. lease.addr ≢ x.addr) xs ys h.0, apart_first xs ys h.1)

first_alone : (xs ys : List Lease) (lease : Lease) → xs ++ ys ≡ lease ∷ [] → (xs ≡ []) ⊎ (xs ≡ lease ∷ [])
first_alone [] ys lease e = inl refl
first_alone (x ∷ []) ys lease e = let same : x ≡ lease = cc in inr (ap (λ (l : Lease). l ∷ []) same)
first_alone (x ∷ z ∷ xs) ys lease e = absurd cc

kind_first : (xs ys : List Lease) → AreOneKind (xs ++ ys) → AreOneKind xs
kind_first xs ys (group all) = group (all_front (λ lease. lease.kind ≡ Group) xs ys all)
kind_first xs ys (unique lease only is_unique) =
    ⊎_elim
    (λ none. subst AreOneKind (sym none) (group tt))
    (λ one. unique lease one is_unique)
    (first_alone xs ys lease only)

pub sound_first : (latest : ℕ) (xs ys : List Lease) → AreSound latest (xs ++ ys) → AreSound latest xs
sound_first latest xs ys h = record {
  apart = apart_first xs ys h.apart;
  one_kind = kind_first xs ys h.one_kind;
  most = omega (arith, h.most, length-append xs ys);
  in_time = all_front (λ lease. lease.end ≤ latest) xs ys h.in_time;
}

-- ---- a lease that may stand last

last_none : (leases : List Lease) (lease : Lease) → AreApart (leases ++ lease ∷ []) → HasNone lease.addr leases
last_none [] lease h = tt
last_none (x ∷ xs) lease h =
    let other : lease.addr ≢ x.addr = (all_behind (λ l. l.addr ≢ x.addr) xs (lease ∷ []) h.0).0 in
    ((λ same. other (sym same)), last_none xs lease h.1)

pub stands_last : (latest : ℕ) (leases : List Lease) (lease : Lease) → AreSound latest leases → lease.end ≤ latest → MayStand lease leases → AreSound latest (leases ++ lease ∷ [])
stands_last latest leases lease h timely may = record {
  apart = apart_push leases lease may.none h.apart;
  one_kind = may.one_kind;
  most = omega (arith, length-append leases (lease ∷ []), may.room);
  in_time = all_joined (λ l. l.end ≤ latest) leases (lease ∷ []) h.in_time (timely, tt);
}

pub may_stand : (latest : ℕ) (leases : List Lease) (lease : Lease) → AreSound latest (leases ++ lease ∷ []) → MayStand lease leases
may_stand latest leases lease h = record {
  none = last_none leases lease h.apart;
  room = omega (arith, h.most, length-append leases (lease ∷ []));
  one_kind = h.one_kind;
}

pub timely_last : (latest : ℕ) (leases : List Lease) (lease : Lease) → AreSound latest (leases ++ lease ∷ []) → lease.end ≤ latest
timely_last latest leases lease h = (all_behind (λ l. l.end ≤ latest) leases (lease ∷ []) h.in_time).0

pub has_both : (addr : ℕ) (leases : List Lease) → HasOne addr leases → HasNone addr leases → ⊥
has_both addr leases one none = (all_behind (λ l. l.addr ≢ addr) one.before (one.lease ∷ one.behind) (subst (HasNone addr) one.is none)).0 one.owner_is

pub group_before : (leases : List Lease) (lease : Lease) → lease.kind ≡ Group → AreOneKind (leases ++ lease ∷ []) → AreGroup leases
group_before leases lease is (group all) = all_front (λ l. l.kind ≡ Group) leases (lease ∷ []) all
group_before leases lease is (unique other only is_unique) =
    let parts = alone leases [] lease other only in
    let same : lease.kind ≡ Unique = ap (λ (l : Lease). l.kind) parts.1 ∙ is_unique in
    absurd cc

pub none_before : (leases : List Lease) (lease : Lease) → lease.kind ≡ Unique → AreOneKind (leases ++ lease ∷ []) → leases ≡ []
none_before leases lease is (group all) =
    let other : lease.kind ≡ Group = (all_behind (λ l. l.kind ≡ Group) leases (lease ∷ []) all).0 in
    absurd cc
none_before leases lease is (unique other only is_unique) = (alone leases [] lease other only).0

pub alone_stands : (lease : Lease) → lease.kind ≡ Unique → MayStand lease []
alone_stands lease is = record { none = tt; room = omega arith; one_kind = unique lease refl is }

pub group_stands : (leases : List Lease) (lease : Lease) → lease.kind ≡ Group → AreGroup leases → HasNone lease.addr leases → length leases < members_most → MayStand lease leases
group_stands leases lease is all none room = record {
  none = none;
  room = room;
  one_kind = group (all_joined (λ l. l.kind ≡ Group) leases (lease ∷ []) all (is, tt));
}

-- ---- a row more

pub row_more : (now : ℕ) (rows : Rows) (name : NameValue) (lease : Lease) → now < lease.end → leases_at now (rows ++ (name, lease) ∷ []) name ≡ leases_at now rows name ++ lease ∷ []
row_more now rows name lease live = ap (λ (f : Leases). f name) (last_at now name lease rows live) ∙ here name (leases_at now rows name ++ lease ∷ []) (leases_at now rows)

pub over_more : (now : ℕ) (rows : Rows) (name : NameValue) (lease : Lease) → lease.end ≤ now → leases_at now (rows ++ (name, lease) ∷ []) ≡ leases_at now rows
over_more now rows name lease over =
    same_leases (leases_at now (rows ++ (name, lease) ∷ [])) (leases_at now rows)
    (λ q. leases_at-append now rows ((name, lease) ∷ []) q
    ∙ (ap (λ (ls : List Lease). leases_at now rows q ++ ls) (row_over now (name, lease) [] q (le-ltb now lease.end over) ∙ none_live now q)
    ∙ append-nil (leases_at now rows q)))

pub all_live_at : (m : ℕ) (rows : Rows) (q : NameValue) → AreLive m (leases_at m rows q)
all_live_at m rows q = subst (AreLive m) (sym (later_is m m rows q (omega arith))) (live_left m (leases_at m rows q))

-- how an address stands among leases that all live
pub stands_so : (m addr : ℕ) (slice leases : List Lease) (standing : Standing) → slice ≡ leases → AreLive m leases → StandsIn addr (filter (is_live m) slice) standing → StandsIn addr leases standing
stands_so m addr slice leases standing is live found = subst (λ (ls : List Lease). StandsIn addr ls standing) (ap (filter (is_live m)) is ∙ all_live m leases live) found

-- all of them live, and are as many
pub counted_live : (now : ℕ) (es : Entries) (rows : Rows) → IsDistinct same_name (keys_of es) → members_of es ≡ leases_at now rows → (leases_at now (rows_of es) ≡ leases_at now rows) × (length (rows_of es) ≡ live_count now rows)
counted_live now es rows names is =
    let live : (q : NameValue) → AreLive now (members_of es q) = λ q. subst (AreLive now) (sym (ap (λ (f : Leases). f q) is)) (all_live_at now rows q) in
    let same : leases_at now (rows_of es) ≡ leases_at now rows = leases_members now es names live ∙ is in
    (same, sym (all_counted now es names live) ∙ same_count now (rows_of es) rows same)

-- ---- whether a lease may stand, as the code finds it

pub alone_may : (lease : Lease) (leases : List Lease) → lease.kind ≡ Unique → MayStand lease leases ↔ (length leases ≡ 0)
alone_may lease leases is = (
  λ may. ap length (none_before leases lease is may.one_kind),
  λ none. subst (MayStand lease) (sym (nil_from_length leases none)) (alone_stands lease is),
)

pub owner_may_not : (lease : Lease) (leases : List Lease) (own : Bool) → (own ≡ true → HasOne lease.addr leases) → own ≡ true → MayStand lease leases → ⊥
owner_may_not lease leases own has is may = has_both lease.addr leases (has is) may.none

pub group_may : (lease : Lease) (leases : List Lease) → lease.kind ≡ Group → AreGroup leases → HasNone lease.addr leases → MayStand lease leases ↔ (length leases < members_most)
group_may lease leases is all none = (λ may. may.room, λ room. group_stands leases lease is all none room)

-- ---- the rows so far, and one more

pub count_more : (now : ℕ) (rows : Rows) (row : NameValue × Lease) → now < row.1.end → live_count now (rows ++ row ∷ []) ≡ live_count now rows + 1
count_more now rows row live = live_count-append now rows (row ∷ []) ∙ ap (λ (n : ℕ). live_count now rows + n) (count_lives now row [] (lt-ltb now row.1.end live) ∙ ap suc (none_count now))

pub count_same : (now : ℕ) (rows : Rows) (row : NameValue × Lease) → row.1.end ≤ now → live_count now (rows ++ row ∷ []) ≡ live_count now rows
count_same now rows row over = live_count-append now rows (row ∷ []) ∙ (ap (λ (n : ℕ). live_count now rows + n) (count_over now row [] (le-ltb now row.1.end over) ∙ none_count now) ∙ omega arith)

-- sound leases of the first rows, and of the name of the next one
pub sound_next : (latest now : ℕ) (rows : Rows) (row : NameValue × Lease) → ((q : NameValue) → AreSound latest (leases_at now rows q)) → AreSound latest (leases_at now (rows ++ row ∷ []) row.0) → (q : NameValue) → AreSound latest (leases_at now (rows ++ row ∷ []) q)
sound_next latest now rows row all here q =
    ⊎_elim
    (λ named. subst (λ (n : NameValue). AreSound latest (leases_at now (rows ++ row ∷ []) n)) (same_name-true row.0 q named) here)
    (λ other. subst (AreSound latest) (sym (leases_at-append now rows (row ∷ []) q ∙ (ap (λ (ls : List Lease). leases_at now rows q ++ ls) (row_of_other now row [] q other ∙ none_live now q) ∙ append-nil (leases_at now rows q)))) (all q))
    (cases_Bool (same_name row.0 q))

-- sound leases of all rows are sound of the first ones
pub sound_before : (latest now : ℕ) (rows behind : Rows) (q : NameValue) → AreSound latest (leases_at now (rows ++ behind) q) → AreSound latest (leases_at now rows q)
sound_before latest now rows behind q h = sound_first latest (leases_at now rows q) (leases_at now behind q) (subst (AreSound latest) (leases_at-append now rows behind q) h)

-- the first rows, and the next one
pub rows_next : (rows : Rows) (place : ℕ) (row : NameValue × Lease) → place < length rows → row ≡ get_or rows place row → take (place + 1) rows ≡ take place rows ++ row ∷ []
rows_next rows place row within is = take_more rows place row within ∙ ap (λ (r : NameValue × Lease). take place rows ++ r ∷ []) (sym is)

pub sound_so_far : (latest now : ℕ) (rows : Rows) (place : ℕ) (q : NameValue) → AreSound latest (leases_at now rows q) → AreSound latest (leases_at now (take place rows) q)
sound_so_far latest now rows place q h = sound_before latest now (take place rows) (drop place rows) q (subst (λ (rs : Rows). AreSound latest (leases_at now rs q)) (sym (take-append-drop place rows)) h)

pub ok_is : {T E : Type 0} (r : Result T E) (P : Type 0) → is_err r ≡ false → OnOk r P → P
ok_is (Ok x) P is h = h
ok_is (Err e) P is h = absurd (false≢true (sym is))

-- ---- at first

pub none_sound_at : (latest now : ℕ) (q : NameValue) → AreSound latest (leases_at now [] q)
none_sound_at latest now q = subst (AreSound latest) (sym (none_live now q)) (record { apart = tt; one_kind = group tt; most = omega arith; in_time = tt })

pub no_names : (es : Entries) → es ≡ [] → IsDistinct same_name (keys_of es)
no_names es is = rw is (none_distinct same_name)

pub one_fault : {T E : Type 0} (r : Result T E) (x y : E) → r ≡ Err x → r ≡ Err y → x ≡ y
one_fault {T} {E} r x y is other = let both : ◌≡◌ {A = Result T E} (Err x) (Err y) = sym is ∙ other in cc
