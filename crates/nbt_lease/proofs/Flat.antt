-- The members of all names as rows, and the expiries of all rows.
use Rattle.std.proofs.Common.{◌≡◌, ℕ, suc, ◌<◌, ◌≤◌, Bool, true, false, ◌&&◌, ◌||◌, cond, List, [], ◌∷◌, ◌++◌, map, length, Option, Some, None, unwrap_or, refl, sym, ap, ◌∙◌, subst, ⊎_elim, arith}
use Rattle.nbt_lease.proofs.Common.{filter, list_any, AllByRecursion, lookup, keys_of, cases_Bool, cond-true, cond-false, lt-ltb, ltb-true, le-ltb, append-nil, map-append, length-append, length-map, or-false, list_any-append, IsDistinct-head, IsDistinct-tail, IsDistinct-cons, length-from_same_keys, NameValue, same_name, Lease, Due, Rows, Leases, is_live, leases_at, live_count, at_name, HasNone, AreApart, Entries, members_of, rows_of, due, is_due, in_set, has_end, Agrees, AreLive}
use Rattle.std.specs.List.{IsDistinct}
use Rattle.nbt_name.proofs.Same.{same_name-true, same_name-same, same_name-turned}
use Rattle.nbt_lease.proofs.Rows.{row_lives, row_of_other, row_over, count_lives, none_live, none_count, leases_at-append, live_count-append, same_leases}
use Rattle.nbt_lease.proofs.Dues.{due_equiv, member_is}
use Rattle.nbt_lease.proofs.Ending.{ends_so, no_end}

-- ---- a name that stands no second time

none_among : (name : NameValue) (es : Entries) → AllByRecursion (λ k. same_name name k ≡ false) (keys_of es) → lookup (same_name name) es ≡ None
none_among name [] apart = refl
none_among name (e ∷ es) apart = rw apart.0 (none_among name es apart.1)

none_behind : (e : NameValue × List Lease) (es : Entries) → IsDistinct same_name (keys_of (e ∷ es)) → (q : NameValue) → same_name q e.0 ≡ true → members_of es q ≡ []
none_behind e es distinct q named =
    ap (λ (o : Option (List Lease)). unwrap_or o []) (subst (λ (n : NameValue). lookup (same_name n) es ≡ None) (sym (same_name-true q e.0 named)) (none_among e.0 es (IsDistinct-head same_name e.0 (keys_of es) distinct)))

here_is : (e : NameValue × List Lease) (es : Entries) (q : NameValue) → same_name q e.0 ≡ true → members_of (e ∷ es) q ≡ e.1
here_is e es q named = ap (λ (b : Bool). unwrap_or (cond b (Some e.1) (lookup (same_name q) es)) []) named

behind_is : (e : NameValue × List Lease) (es : Entries) (q : NameValue) → same_name q e.0 ≡ false → members_of (e ∷ es) q ≡ members_of es q
behind_is e es q other = ap (λ (b : Bool). unwrap_or (cond b (Some e.1) (lookup (same_name q) es)) []) other

-- what holds of the members of each name holds of them after the first name
pub holds_behind : (P : List Lease → Type 0) (e : NameValue × List Lease) (es : Entries) → IsDistinct same_name (keys_of (e ∷ es)) → P [] → ((q : NameValue) → P (members_of (e ∷ es) q)) → (q : NameValue) → P (members_of es q)
holds_behind P e es distinct empty all q =
    ⊎_elim
    (λ named. subst P (sym (none_behind e es distinct q named)) empty)
    (λ other. subst P (behind_is e es q other) (all q))
    (cases_Bool (same_name q e.0))

holds_here : (P : List Lease → Type 0) (e : NameValue × List Lease) (es : Entries) → ((q : NameValue) → P (members_of (e ∷ es) q)) → P e.1
holds_here P e es all = subst P (here_is e es e.0 (same_name-same e.0)) (all e.0)

-- ---- the ends of all rows

abbrev pub dues_of : Rows → List Due
dues_of rows = map (λ row. due row.1.end row.0 row.1.addr) rows

abbrev rows_at : NameValue → List Lease → Rows
rows_at name leases = map (λ lease. (name, lease)) leases

dues_joined : (name : NameValue) (leases : List Lease) (rows : Rows) (d : Due) → in_set (dues_of (rows_at name leases ++ rows)) d ≡ (in_set (dues_of (rows_at name leases)) d || in_set (dues_of rows) d)
dues_joined name leases rows d =
    ap (λ (ds : List Due). in_set ds d) (map-append (λ (row : NameValue × Lease). due row.1.end row.0 row.1.addr) (rows_at name leases) rows)
    ∙ list_any-append (λ (e : Due). is_due e d) (dues_of (rows_at name leases)) (dues_of rows)

dues_here : (name : NameValue) (leases : List Lease) (d : Due) → same_name name d.name ≡ true → in_set (dues_of (rows_at name leases)) d ≡ has_end d.end d.addr leases
dues_here name [] d named = refl
dues_here name (x ∷ xs) d named = λ i. (named i && ends_so d.end d.addr x) || dues_here name xs d named i

dues_elsewhere : (name : NameValue) (leases : List Lease) (d : Due) → same_name name d.name ≡ false → in_set (dues_of (rows_at name leases)) d ≡ false
dues_elsewhere name [] d other = refl
dues_elsewhere name (x ∷ xs) d other = rw other (dues_elsewhere name xs d other)

pub dues_are : (es : Entries) (d : Due) → IsDistinct same_name (keys_of es) → in_set (dues_of (rows_of es)) d ≡ has_end d.end d.addr (members_of es d.name)
dues_are [] d distinct = refl
dues_are (e ∷ es) d distinct =
    let rest : in_set (dues_of (rows_of es)) d ≡ has_end d.end d.addr (members_of es d.name) = dues_are es d (IsDistinct-tail same_name e.0 (keys_of es) distinct) in
    dues_joined e.0 e.1 (rows_of es) d ∙
    ⊎_elim
    (λ named. (λ i. dues_here e.0 e.1 d (turned_true d.name e.0 named) i || (rest ∙ ap (has_end d.end d.addr) (none_behind e es distinct d.name named)) i)
    ∙ (or-false (has_end d.end d.addr e.1) ∙ ap (has_end d.end d.addr) (sym (here_is e es d.name named))))
    (λ other. (λ i. dues_elsewhere e.0 e.1 d (same_name-turned d.name e.0 other) i || rest i) ∙ ap (has_end d.end d.addr) (sym (behind_is e es d.name other)))
    (cases_Bool (same_name d.name e.0))
  where
    turned_true : (a b : NameValue) → same_name a b ≡ true → same_name b a ≡ true
    turned_true a b named = subst (λ (n : NameValue). same_name n a ≡ true) (same_name-true a b named) (same_name-same a)

-- ---- no end stands twice

pub none_passes : (test : Due → Bool) (ds : List Due) → list_any test ds ≡ false → AllByRecursion (λ d. test d ≡ false) ds
none_passes test [] none = tt
none_passes test (x ∷ xs) none = let parts = neither (test x) (list_any test xs) none in (parts.0, none_passes test xs parts.1)
  where
    neither : (a b : Bool) → (a || b) ≡ false → (a ≡ false) × (b ≡ false)
    neither true b h = absurd cc
    neither false b h = (refl, h)

not_there : (name : NameValue) (lease : Lease) (leases : List Lease) (rows : Rows) → HasNone lease.addr leases → ((e a : ℕ) → in_set (dues_of rows) (due e name a) ≡ false)
    → in_set (dues_of (rows_at name leases ++ rows)) (due lease.end name lease.addr) ≡ false
not_there name lease leases rows none behind =
    let d : Due = due lease.end name lease.addr in
    dues_joined name leases rows d ∙ (λ i. (dues_here name leases d (same_name-same name) ∙ no_end lease.end lease.addr leases none) i || behind lease.end lease.addr i)

apart_front : (name : NameValue) (leases : List Lease) (rows : Rows) → AreApart leases → IsDistinct is_due (dues_of rows) → ((e a : ℕ) → in_set (dues_of rows) (due e name a) ≡ false) → IsDistinct is_due (dues_of (rows_at name leases ++ rows))
apart_front name [] rows apart distinct behind = distinct
apart_front name (x ∷ xs) rows apart distinct behind =
    let d : Due = due x.end name x.addr in
    let ds : List Due = dues_of (rows_at name xs ++ rows) in
    IsDistinct-cons is_due d ds (none_passes (is_due d) ds (member_is ds d ∙ not_there name x xs rows apart.0 behind)) (apart_front name xs rows apart.1 distinct behind)

pub dues_apart : (es : Entries) → IsDistinct same_name (keys_of es) → ((q : NameValue) → AreApart (members_of es q)) → IsDistinct is_due (dues_of (rows_of es))
unfolding IsDistinct
dues_apart [] distinct apart = tt
dues_apart (e ∷ es) distinct apart =
    let tail : IsDistinct same_name (keys_of es) = IsDistinct-tail same_name e.0 (keys_of es) distinct in
    apart_front e.0 e.1 (rows_of es) (holds_here AreApart e es apart) (dues_apart es tail (holds_behind AreApart e es distinct tt apart))
    (λ f a. dues_are es (due f e.0 a) tail ∙ ap (has_end f a) (none_behind e es distinct e.0 (same_name-same e.0)))

-- the count of rows is the size of the set
pub counted : (es : Entries) (ds : List Due) → Agrees es ds → length ds ≡ length (rows_of es)
counted es ds h =
    length-from_same_keys due_equiv ds (dues_of (rows_of es)) h.once (dues_apart es h.names h.apart)
    (λ d. member_is ds d ∙ (h.agree d ∙ (sym (dues_are es d h.names) ∙ sym (member_is (dues_of (rows_of es)) d))))
    ∙ length-map {B = Due} (rows_of es) (λ (row : NameValue × Lease). due row.1.end row.0 row.1.addr)

-- ---- the leases of each name

pub live_front : (m : ℕ) (x : Lease) (xs : List Lease) → is_live m x ≡ true → filter (is_live m) (x ∷ xs) ≡ x ∷ filter (is_live m) xs
live_front m x xs live = rw live refl

pub over_front : (m : ℕ) (x : Lease) (xs : List Lease) → is_live m x ≡ false → filter (is_live m) (x ∷ xs) ≡ filter (is_live m) xs
over_front m x xs over = rw over refl

leases_here : (m : ℕ) (name q : NameValue) (leases : List Lease) → same_name name q ≡ true → leases_at m (rows_at name leases) q ≡ filter (is_live m) leases
leases_here m name q [] named = none_live m q
leases_here m name q (x ∷ xs) named =
    let rest : leases_at m (rows_at name xs) q ≡ filter (is_live m) xs = leases_here m name q xs named in
    ⊎_elim
    (λ live. row_lives m (name, x) (rows_at name xs) q named live ∙ (ap (λ (ls : List Lease). x ∷ ls) rest ∙ sym (live_front m x xs live)))
    (λ over. row_over m (name, x) (rows_at name xs) q over ∙ (rest ∙ sym (over_front m x xs over)))
    (cases_Bool (is_live m x))

leases_elsewhere : (m : ℕ) (name q : NameValue) (leases : List Lease) → same_name name q ≡ false → leases_at m (rows_at name leases) q ≡ []
leases_elsewhere m name q [] other = none_live m q
leases_elsewhere m name q (x ∷ xs) other = row_of_other m (name, x) (rows_at name xs) q other ∙ leases_elsewhere m name q xs other

-- what lives of a name are its members that live
pub leases_are : (m : ℕ) (es : Entries) (q : NameValue) → IsDistinct same_name (keys_of es) → leases_at m (rows_of es) q ≡ filter (is_live m) (members_of es q)
leases_are m [] q distinct = none_live m q
leases_are m (e ∷ es) q distinct =
    let rest : leases_at m (rows_of es) q ≡ filter (is_live m) (members_of es q) = leases_are m es q (IsDistinct-tail same_name e.0 (keys_of es) distinct) in
    leases_at-append m (rows_at e.0 e.1) (rows_of es) q ∙
    ⊎_elim
    (λ named. (λ i. leases_here m e.0 q e.1 (subst (λ (n : NameValue). same_name n q ≡ true) (same_name-true q e.0 named) (same_name-same q)) i ++ (rest ∙ ap (filter (is_live m)) (none_behind e es distinct q named)) i)
    ∙ (append-nil (filter (is_live m) e.1) ∙ ap (filter (is_live m)) (sym (here_is e es q named))))
    (λ other. (λ i. leases_elsewhere m e.0 q e.1 (same_name-turned q e.0 other) i ++ rest i) ∙ ap (filter (is_live m)) (sym (behind_is e es q other)))
    (cases_Bool (same_name q e.0))

-- ---- where none is over

pub all_live : (m : ℕ) (leases : List Lease) → AreLive m leases → filter (is_live m) leases ≡ leases
all_live m [] live = refl
all_live m (x ∷ xs) live = live_front m x xs (lt-ltb m x.end live.0) ∙ ap (λ (ls : List Lease). x ∷ ls) (all_live m xs live.1)

pub live_left : (m : ℕ) (leases : List Lease) → AreLive m (filter (is_live m) leases)
live_left m [] = tt
live_left m (x ∷ xs) =
    ⊎_elim
    (λ live. subst (AreLive m) (sym (live_front m x xs live)) (ltb-true m x.end live, live_left m xs))
    (λ over. subst (AreLive m) (sym (over_front m x xs over)) (live_left m xs))
    (cases_Bool (is_live m x))

count_here : (m : ℕ) (name : NameValue) (leases : List Lease) → AreLive m leases → live_count m (rows_at name leases) ≡ length leases
count_here m name [] live = none_count m
count_here m name (x ∷ xs) live = count_lives m (name, x) (rows_at name xs) (lt-ltb m x.end live.0) ∙ ap suc (count_here m name xs live.1)

-- then each row lives
pub all_counted : (m : ℕ) (es : Entries) → IsDistinct same_name (keys_of es) → ((q : NameValue) → AreLive m (members_of es q)) → live_count m (rows_of es) ≡ length (rows_of es)
all_counted m [] distinct live = none_count m
all_counted m (e ∷ es) distinct live =
    let here : live_count m (rows_at e.0 e.1) ≡ length e.1 = count_here m e.0 e.1 (holds_here (AreLive m) e es live) in
    let rest : live_count m (rows_of es) ≡ length (rows_of es) = all_counted m es (IsDistinct-tail same_name e.0 (keys_of es) distinct) (holds_behind (AreLive m) e es distinct tt live) in
    omega (arith, here, rest, live_count-append m (rows_at e.0 e.1) (rows_of es), length-append (rows_at e.0 e.1) (rows_of es), length-map {B = NameValue × Lease} e.1 (λ (lease : Lease). (e.0, lease)))

-- the live leases of all names are the members
pub leases_members : (m : ℕ) (es : Entries) → IsDistinct same_name (keys_of es) → ((q : NameValue) → AreLive m (members_of es q)) → leases_at m (rows_of es) ≡ members_of es
leases_members m es distinct live = same_leases (leases_at m (rows_of es)) (members_of es) (λ q. leases_are m es q distinct ∙ all_live m (members_of es q) (live q))

-- a lease that is over goes: what lives of each name is as before
over_gone : (m : ℕ) (before behind : List Lease) (lease : Lease) → lease.end ≤ m → filter (is_live m) (before ++ behind) ≡ filter (is_live m) (before ++ lease ∷ behind)
over_gone m [] behind lease over = sym (over_front m lease behind (le-ltb m lease.end over))
over_gone m (x ∷ xs) behind lease over =
    let rest : filter (is_live m) (xs ++ behind) ≡ filter (is_live m) (xs ++ lease ∷ behind) = over_gone m xs behind lease over in
    ⊎_elim
    (λ live. live_front m x (xs ++ behind) live ∙ (ap (λ (ls : List Lease). x ∷ ls) rest ∙ sym (live_front m x (xs ++ lease ∷ behind) live)))
    (λ gone. over_front m x (xs ++ behind) gone ∙ (rest ∙ sym (over_front m x (xs ++ lease ∷ behind) gone)))
    (cases_Bool (is_live m x))

pub live_stays : (m : ℕ) (es : Entries) (after : Leases) (k : NameValue) (before behind : List Lease) (lease : Lease) → members_of es k ≡ before ++ lease ∷ behind → lease.end ≤ m → after ≡ at_name k (before ++ behind) (members_of es)
    → (q : NameValue) → filter (is_live m) (after q) ≡ filter (is_live m) (members_of es q)
live_stays m es after k before behind lease is over after_is q =
    ap (λ (f : Leases). filter (is_live m) (f q)) after_is ∙
    ⊎_elim
    (λ named. ap (filter (is_live m)) (cond-true (same_name q k) (before ++ behind) (members_of es q) named) ∙ (over_gone m before behind lease over ∙ ap (filter (is_live m)) (sym (ap (members_of es) (same_name-true q k named) ∙ is))))
    (λ other. ap (filter (is_live m)) (cond-false (same_name q k) (before ++ behind) (members_of es q) other))
    (cases_Bool (same_name q k))

-- ---- one lease in front, where the leases are known by an equation

pub live_first : (m : ℕ) (x : Lease) (leases others : List Lease) → leases ≡ x ∷ others → m < x.end → filter (is_live m) leases ≡ x ∷ filter (is_live m) others
live_first m x leases others is live = ap (filter (is_live m)) is ∙ live_front m x others (lt-ltb m x.end live)

pub over_first : (m : ℕ) (x : Lease) (leases others : List Lease) → leases ≡ x ∷ others → x.end ≤ m → filter (is_live m) leases ≡ filter (is_live m) others
over_first m x leases others is over = ap (filter (is_live m)) is ∙ over_front m x others (le-ltb m x.end over)
