-- Rows, and the leases that they hold of each name at a time.
use Rattle.std.proofs.Common.{◌≡◌, ℕ, suc, ◌+◌, ◌≤◌, Bool, true, false, ◌&&◌, [], ◌∷◌, ◌++◌, map, length, refl, sym, ap, ◌∙◌, ⊎_elim, arith}
use Rattle.nbt_lease.proofs.Common.{filter, cases_Bool, and_right, ltb-false, le-ltb, map-append, length-append, filter-append, NameValue, same_name, Lease, Rows, Leases, is_live, cond-true, cond-false, at_name}
use Rattle.nbt_lease.specs.Lease.{leases_at, live_count}
use Rattle.nbt_name.proofs.Same.{same_name-true}

-- ---- one row more, in front

pub row_lives : (m : ℕ) (row : NameValue × Lease) (rows : Rows) (name : NameValue) → same_name row.0 name ≡ true → is_live m row.1 ≡ true → leases_at m (row ∷ rows) name ≡ row.1 ∷ leases_at m rows name
unfolding leases_at
row_lives m row rows name named live = rw (named, live) refl

pub row_of_other : (m : ℕ) (row : NameValue × Lease) (rows : Rows) (name : NameValue) → same_name row.0 name ≡ false → leases_at m (row ∷ rows) name ≡ leases_at m rows name
unfolding leases_at
row_of_other m row rows name other = rw other refl

pub row_over : (m : ℕ) (row : NameValue × Lease) (rows : Rows) (name : NameValue) → is_live m row.1 ≡ false → leases_at m (row ∷ rows) name ≡ leases_at m rows name
unfolding leases_at
row_over m row rows name over =
    let out : (same_name row.0 name && is_live m row.1) ≡ false = and_right (same_name row.0 name) (is_live m row.1) over in
    rw out refl

pub count_lives : (m : ℕ) (row : NameValue × Lease) (rows : Rows) → is_live m row.1 ≡ true → live_count m (row ∷ rows) ≡ suc (live_count m rows)
unfolding live_count
count_lives m row rows live = rw live refl

pub count_over : (m : ℕ) (row : NameValue × Lease) (rows : Rows) → is_live m row.1 ≡ false → live_count m (row ∷ rows) ≡ live_count m rows
unfolding live_count
count_over m row rows over = rw over refl

pub none_live : (m : ℕ) (name : NameValue) → leases_at m [] name ≡ []
unfolding leases_at
none_live m name = refl

pub none_count : (m : ℕ) → live_count m [] ≡ 0
unfolding live_count
none_count m = refl

pub leases_at-append : (m : ℕ) (xs ys : Rows) (name : NameValue) → leases_at m (xs ++ ys) name ≡ leases_at m xs name ++ leases_at m ys name
unfolding leases_at
leases_at-append m xs ys name =
    let here : NameValue × Lease → Bool = λ row. same_name row.0 name && is_live m row.1 in
    ap (map (λ (row : NameValue × Lease). row.1)) (filter-append here xs ys) ∙ map-append (λ (row : NameValue × Lease). row.1) (filter here xs) (filter here ys)

pub live_count-append : (m : ℕ) (xs ys : Rows) → live_count m (xs ++ ys) ≡ live_count m xs + live_count m ys
unfolding live_count
live_count-append m xs ys =
    let live : NameValue × Lease → Bool = λ row. is_live m row.1 in
    ap length (filter-append live xs ys) ∙ length-append (filter live xs) (filter live ys)

-- ---- a later moment

pub over_later : (early late : ℕ) (lease : Lease) → early ≤ late → is_live early lease ≡ false → is_live late lease ≡ false
over_later early late lease onward over = le-ltb late lease.end (omega (arith, ltb-false early lease.end over))

later_cases : (early late : ℕ) (row : NameValue × Lease) (rows : Rows) (name : NameValue) → early ≤ late
    → leases_at late rows name ≡ filter (is_live late) (leases_at early rows name)
    → leases_at late (row ∷ rows) name ≡ filter (is_live late) (leases_at early (row ∷ rows) name)
later_cases early late row rows name onward rest =
    ⊎_elim
    (λ named.
    ⊎_elim
    (λ live.
    ⊎_elim
    (λ still. row_lives late row rows name named still ∙ (rw (row_lives early row rows name named live, still, rest) refl))
    (λ over. row_over late row rows name over ∙ (rw (row_lives early row rows name named live, over, rest) refl))
    (cases_Bool (is_live late row.1)))
    (λ over. row_over late row rows name (over_later early late row.1 onward over) ∙ (rest ∙ ap (filter (is_live late)) (sym (row_over early row rows name over))))
    (cases_Bool (is_live early row.1)))
    (λ other. row_of_other late row rows name other ∙ (rest ∙ ap (filter (is_live late)) (sym (row_of_other early row rows name other))))
    (cases_Bool (same_name row.0 name))

-- what lives later is what lives then of what lives now
pub later_is : (early late : ℕ) (rows : Rows) (name : NameValue) → early ≤ late → leases_at late rows name ≡ filter (is_live late) (leases_at early rows name)
later_is early late [] name onward = none_live late name ∙ ap (filter (is_live late)) (sym (none_live early name))
later_is early late (row ∷ rows) name onward = later_cases early late row rows name onward (later_is early late rows name onward)

pub same_leases : (f g : Leases) → ((name : NameValue) → f name ≡ g name) → f ≡ g
same_leases f g h = λ i name. (h name) i

pub same_later : (early late : ℕ) (a b : Rows) → early ≤ late → leases_at early a ≡ leases_at early b → leases_at late a ≡ leases_at late b
same_later early late a b onward same =
    same_leases (leases_at late a) (leases_at late b)
    (λ name. later_is early late a name onward ∙ (ap (λ (f : Leases). filter (is_live late) (f name)) same ∙ sym (later_is early late b name onward)))

-- the leases of a name put there again
pub at_same : (name : NameValue) (leases : Leases) → leases ≡ at_name name (leases name) leases
at_same name leases =
    same_leases leases (at_name name (leases name) leases)
    (λ q.
    ⊎_elim
    (λ named. ap leases (same_name-true q name named) ∙ sym (cond-true (same_name q name) (leases name) (leases q) named))
    (λ other. sym (cond-false (same_name q name) (leases name) (leases q) other))
    (cases_Bool (same_name q name)))
