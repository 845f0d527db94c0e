-- What changes make of the leases of each name, and what a crash leaves of them (our profile).
use Rattle.std.specs.Prelude.{◌≡◌, ℕ, ◌≤◌, max, not, nat_eq, if◌then◌else◌, List, [], ◌∷◌, ◌++◌, length, map, filter, take, Any, ⊤}
use Rattle.nbt_name.specs.Wire.{NameValue}
use Rattle.nbt_lease.specs.declared.lease.Lease.{Lease}
use Rattle.nbt_lease.specs.Lease.{Leases, Rows, at_name}
use Rattle.nbt_store.specs.declared.change.Change.{Change}
use Rattle.nbt_store.specs.declared.change.Change.TheVariants.{Began, Moved, Released, Reached, Looked}

-- the leases but that of this address
abbrev pub without : (addr : ℕ) → List Lease → List Lease
without addr leases = filter (λ lease. not (nat_eq lease.addr addr)) leases

-- the same leases, that of this address with another expiry
abbrev pub moved : (addr end : ℕ) → Lease → Lease
moved addr end lease = if nat_eq lease.addr addr then record lease { end = end } else lease

abbrev pub with_end : (addr end : ℕ) → List Lease → List Lease
with_end addr end leases = map (moved addr end) leases

-- The leases of each name after one begins: it goes last, and one of its address goes.
abbrev pub begins : NameValue → Lease → Leases → Leases
begins name lease leases = at_name name (without lease.addr (leases name) ++ lease ∷ []) leases

-- after one gets another expiry: it keeps its place
abbrev pub moves : NameValue → (addr end : ℕ) → Leases → Leases
moves name addr end leases = at_name name (with_end addr end (leases name)) leases

-- after one goes
abbrev pub goes : NameValue → (addr : ℕ) → Leases → Leases
goes name addr leases = at_name name (without addr (leases name)) leases

-- After a change, whether they are over or not. Where the server only came to a time, or looked at its clocks, they stay.
abbrev pub after : Change → Leases → Leases
after (Began name lease at) leases = begins name lease leases
after (Moved name addr end at) leases = moves name addr end leases
after (Released name addr at) leases = goes name addr leases
after (Reached at) leases = leases
after (Looked day at) leases = leases

-- after changes in this order
abbrev pub after_all : List Change → Leases → Leases
after_all [] leases = leases
after_all (change ∷ changes) leases = after_all changes (after change leases)

-- the changes by which leases began, all at this time
abbrev pub begun_all : (at : ℕ) → Rows → List Change
begun_all at rows = map (λ row. Began row.0 row.1 at) rows

-- A change that moves or releases a lease has one.
abbrev pub Stands : Change → Leases → Type 0
Stands (Moved name addr end at) leases = Any (λ lease. lease.addr ≡ addr) (leases name)
Stands (Released name addr at) leases = Any (λ lease. lease.addr ≡ addr) (leases name)
Stands change leases = ⊤

-- when a change was made, by the server's clock
abbrev pub at_of : Change → ℕ
at_of (Began name lease at) = at
at_of (Moved name addr end at) = at
at_of (Released name addr at) = at
at_of (Reached at) = at
at_of (Looked day at) = at

-- the greatest of a time and of those of these changes
abbrev pub last_of : (first : ℕ) → List Change → ℕ
last_of first [] = first
last_of first (change ∷ changes) = last_of (max first (at_of change)) changes

-- no lease of any name
abbrev pub no_leases : Leases
no_leases name = []

-- What a crash may leave of changes if it keeps so many at least: the first of them, in order.
pub record MayLeave (changes : List Change) (durable : ℕ) (left : List Change) : Type 0 where
  pub count : ℕ
  pub at_least : durable ≤ count
  pub at_most : count ≤ length changes
  pub left_is : left ≡ take count changes
