-- How many leases an address has over all names, counted name after name.
use Rattle.std.proofs.Common.{◌≡◌, ℕ, zero, suc, ◌+◌, ◌<◌, ◌≤◌, true, false, Bool, ◌&&◌, List, [], ◌∷◌, ◌++◌, map, length, refl, sym, ap, ◌∙◌, ⊎_elim, arith}
use Rattle.nbt_lease.proofs.Common.{filter, cases_Bool, eqb-true, false≢true, filter-append, length-append, length-filter, count_by-le-length, NameValue, Lease, Rows, Entries, rows_of, is_live, is_live_of}
use Rattle.std.specs.Prelude.{nat_eq, ◌↔◌, IsTrue}
use Rattle.nbt_lease.specs.Lease.{count_of}

pub none_of : (m addr : ℕ) → count_of m addr [] ≡ 0
unfolding count_of
none_of m addr = refl

-- one row more, in front
pub row_counts : (m addr : ℕ) (row : NameValue × Lease) (rows : Rows) → is_live_of addr m row.1 ≡ true → count_of m addr (row ∷ rows) ≡ suc (count_of m addr rows)
unfolding count_of
row_counts m addr row rows counts = rw counts refl

pub row_passes : (m addr : ℕ) (row : NameValue × Lease) (rows : Rows) → is_live_of addr m row.1 ≡ false → count_of m addr (row ∷ rows) ≡ count_of m addr rows
unfolding count_of
row_passes m addr row rows passes = rw passes refl

-- the rows of one name
abbrev named_rows : NameValue → List Lease → Rows
named_rows name leases = map (λ lease. (name, lease)) leases

rows_counted : (m addr : ℕ) (name : NameValue) (leases : List Lease) → count_of m addr (named_rows name leases) ≡ length (filter (is_live_of addr m) leases)
unfolding count_of
rows_counted m addr name [] = refl
rows_counted m addr name (lease ∷ leases) =
    let rest = rows_counted m addr name leases in
    ⊎_elim
    (λ is. rw is (ap suc rest))
    (λ other. rw other rest)
    (cases_Bool (nat_eq lease.addr addr && is_live m lease))

count_of-append : (m addr : ℕ) (xs ys : Rows) → count_of m addr (xs ++ ys) ≡ count_of m addr xs + count_of m addr ys
unfolding count_of
count_of-append m addr xs ys =
    let counts : NameValue × Lease → Bool = λ row. is_live_of addr m row.1 in
    ap length (filter-append counts xs ys) ∙ length-append (filter counts xs) (filter counts ys)

-- one name more, in front
pub one_name_more : (m addr : ℕ) (entry : NameValue × List Lease) (entries : Entries) → count_of m addr (rows_of (entry ∷ entries)) ≡ length (filter (is_live_of addr m) entry.1) + count_of m addr (rows_of entries)
one_name_more m addr entry entries = count_of-append m addr (named_rows entry.0 entry.1) (rows_of entries) ∙ ap (λ (n : ℕ). n + count_of m addr (rows_of entries)) (rows_counted m addr entry.0 entry.1)

pub count_at_most : (m addr : ℕ) (rows : Rows) → count_of m addr rows ≤ length rows
unfolding count_of
count_at_most m addr rows = omega (arith, length-filter (λ (r : NameValue × Lease). is_live_of addr m r.1) rows, count_by-le-length (λ (r : NameValue × Lease). is_live_of addr m r.1) rows)

-- ---- as far as the search has come

pub first_name : (m addr : ℕ) (rest others : Entries) (name : NameValue) (leases : List Lease) (found : ℕ) → rest ≡ (name, leases) ∷ others → found ≡ length (filter (is_live_of addr m) leases)
    → count_of m addr (rows_of rest) ≡ found + count_of m addr (rows_of others)
first_name m addr rest others name leases found is counted =
    ap (λ (es : Entries). count_of m addr (rows_of es)) is ∙ one_name_more m addr (name, leases) others ∙ ap (λ (n : ℕ). n + count_of m addr (rows_of others)) (sym counted)

pub no_name : (m addr : ℕ) (rest : Entries) → (0 < length rest → false ≡ true) → count_of m addr (rows_of rest) ≡ 0
no_name m addr [] none = none_of m addr
no_name m addr (entry ∷ entries) none = absurd (false≢true (none (omega arith)))

-- all are found exactly if none is left to be found
pub all_found : (left count total : ℕ) → count ≡ left + total → IsTrue (nat_eq left 0) ↔ (count ≤ total)
all_found zero count total is = (λ zero_left. omega (arith, is), λ within. refl)
all_found (suc n) count total is = (λ none. let e = eqb-true (suc n) 0 none in omega (arith, e), λ within. absurd (omega (arith, is, within)))
