-- Leases of a clock that counts later: which live, in order, and which end too late to be told.
use Rattle.std.proofs.Common.{◌≡◌, ◌∙◌, ℕ, ◌+◌, ◌-◌, ◌^◌, ◌<◌, ◌≤◌, min, true, false, List, [], ◌∷◌, map, refl, sym, ap, inl, inr, lt-ltb, le-ltb, arith}
use Rattle.std.proofs.lemmas.Bool.Decides.{leb_tells}
use Rattle.nbt_lease.specs.declared.lease.Lease.{Lease}
use Rattle.nbt_lease.specs.Lease.{Rows, is_live, leases_at, AreApart, HasNone}
use Rattle.nbt_lease.proofs.Common.{filter, cases_Bool, AllByRecursion, NameValue, same_name}
use Rattle.nbt_lease.proofs.Rows.{row_lives, row_of_other, row_over, none_live}
use Rattle.nbt_server.specs.Shifted.{shifted_lease}
use Rattle.nbt_store.specs.Resuming.{later_row, later_rows}

-- the last number of 64 bits
abbrev pub most : ℕ
most = 2 ^ 64 - 1

-- a lease that ends so much later, of 64 bits
abbrev pub later_lease : (by : ℕ) → Lease → Lease
later_lease by lease = record lease { end = min (lease.end + by) most }

-- ---- one lease

lives_later : (by m : ℕ) (lease : Lease) → is_live (m + by) (shifted_lease by lease) ≡ is_live m lease
lives_later by m lease = elim (leb_tells lease.end m) [
  | inl over ↦ rw (le-ltb m lease.end over.1, le-ltb (m + by) (lease.end + by) (omega (arith, over.1))) refl
  | inr live ↦ rw (lt-ltb m lease.end live.1, lt-ltb (m + by) (lease.end + by) (omega (arith, live.1))) refl
]

lives_capped : (by m : ℕ) (lease : Lease) → m + by < most → is_live (m + by) (later_lease by lease) ≡ is_live m lease
lives_capped by m lease told = elim (leb_tells lease.end m) [
  | inl over ↦ rw (le-ltb m lease.end over.1, le-ltb (m + by) (min (lease.end + by) most) (omega (arith, over.1))) refl
  | inr live ↦ rw (lt-ltb m lease.end live.1, lt-ltb (m + by) (min (lease.end + by) most) (omega (arith, live.1, told))) refl
]

front_lives : (m : ℕ) (lease : Lease) (leases : List Lease) → is_live m lease ≡ true → filter (is_live m) (lease ∷ leases) ≡ lease ∷ filter (is_live m) leases
front_lives m lease leases live = rw live refl

front_over : (m : ℕ) (lease : Lease) (leases : List Lease) → is_live m lease ≡ false → filter (is_live m) (lease ∷ leases) ≡ filter (is_live m) leases
front_over m lease leases over = rw over refl

-- ---- the leases of a name

-- those live that lived so much earlier
pub live_later : (by m : ℕ) (leases : List Lease) → filter (is_live (m + by)) (map (shifted_lease by) leases) ≡ map (shifted_lease by) (filter (is_live m) leases)
live_later by m [] = refl
live_later by m (lease ∷ leases) = elim (cases_Bool (is_live m lease)) [
  | inl live ↦ front_lives (m + by) (shifted_lease by lease) (map (shifted_lease by) leases) (lives_later by m lease ∙ live) ∙ ap (λ (ls : List Lease). shifted_lease by lease ∷ ls) (live_later by m leases)
      ∙ sym (ap (map (shifted_lease by)) (front_lives m lease leases live))
  | inr over ↦ front_over (m + by) (shifted_lease by lease) (map (shifted_lease by) leases) (lives_later by m lease ∙ over) ∙ live_later by m leases ∙ sym (ap (map (shifted_lease by)) (front_over m lease leases over))
]

none_later : (by addr : ℕ) (leases : List Lease) → HasNone addr leases → HasNone addr (map (shifted_lease by) leases)
none_later by addr [] none = tt
none_later by addr (lease ∷ leases) none = (none.0, none_later by addr leases none.1)

pub apart_later : (by : ℕ) (leases : List Lease) → AreApart leases → AreApart (map (shifted_lease by) leases)
apart_later by [] apart = tt
apart_later by (lease ∷ leases) apart = (none_later by lease.addr leases apart.0, apart_later by leases apart.1)

-- where each ends in time, none was cut to 64 bits
pub none_capped : (by latest : ℕ) (leases : List Lease) → latest < most → AllByRecursion (λ lease. lease.end ≤ latest) (map (later_lease by) leases) → map (later_lease by) leases ≡ map (shifted_lease by) leases
none_capped by latest [] told in_time = refl
none_capped by latest (lease ∷ leases) told in_time =
    let first = in_time.0 in
    let end : min (lease.end + by) most ≡ lease.end + by = omega (arith, first, told) in
    ap (λ (n : ℕ). record lease { end = n } ∷ map (later_lease by) leases) end ∙ ap (λ (ls : List Lease). shifted_lease by lease ∷ ls) (none_capped by latest leases told in_time.1)

-- ---- rows

row_capped : (by m : ℕ) (row : NameValue × Lease) (rows : Rows) (name : NameValue) → m + by < most → leases_at (m + by) (later_rows by rows) name ≡ map (later_lease by) (leases_at m rows name)
    → leases_at (m + by) (later_row by row ∷ later_rows by rows) name ≡ map (later_lease by) (leases_at m (row ∷ rows) name)
row_capped by m row rows name told rest = elim (cases_Bool (same_name row.0 name)) [
  | inr other ↦ row_of_other (m + by) (later_row by row) (later_rows by rows) name other ∙ rest ∙ ap (map (later_lease by)) (sym (row_of_other m row rows name other))
  | inl named ↦ elim (cases_Bool (is_live m row.1)) [
    | inl live ↦ row_lives (m + by) (later_row by row) (later_rows by rows) name named (lives_capped by m row.1 told ∙ live) ∙ ap (λ (ls : List Lease). later_lease by row.1 ∷ ls) rest
        ∙ ap (map (later_lease by)) (sym (row_lives m row rows name named live))
    | inr over ↦ row_over (m + by) (later_row by row) (later_rows by rows) name (lives_capped by m row.1 told ∙ over) ∙ rest ∙ ap (map (later_lease by)) (sym (row_over m row rows name over))
  ]
]

pub rows_capped : (by m : ℕ) (rows : Rows) (name : NameValue) → m + by < most → leases_at (m + by) (later_rows by rows) name ≡ map (later_lease by) (leases_at m rows name)
rows_capped by m [] name told = none_live (m + by) name ∙ ap (map (later_lease by)) (sym (none_live m name))
rows_capped by m (row ∷ rows) name told = row_capped by m row rows name told (rows_capped by m rows name told)
