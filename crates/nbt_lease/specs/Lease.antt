-- Leases, and what a table holds of them at a time (our profile).
use Rattle.std.specs.Prelude.{◌≡◌, ◌≢◌, ℕ, ◌+◌, ◌≤◌, Bool, ◌&&◌, if◌then◌else◌, nat_eq, nat_lt, List, [], ◌∷◌, map, filter, length, ⊤}
use Rattle.std.specs.List.{AllByRecursion}
use Rattle.nbt_name.specs.Wire.{NameValue, same_name}
use Rattle.nbt_name.specs.declared.addr.Kind.TheVariants.{Unique, Group}
use Rattle.nbt_lease.specs.declared.lease.Lease.{Lease}
use Rattle.nbt_lease.specs.Config.{ConfigValue, milliseconds}

-- a lease lives until its expiry, and no longer at it
abbrev pub is_live : ℕ → Lease → Bool
is_live moment lease = nat_lt moment lease.end

-- The leases of each name, in order of their beginnings.
abbrev pub Leases : Type 0
Leases = NameValue → List Lease

-- Rows of a name and a lease, those of one name in order of their beginnings. Leases that are over may stand among
-- them, and the order between names says nothing: clauses read rows by `leases_at`, `live_count` and `count_of` alone.
abbrev pub Rows : Type 0
Rows = List (NameValue × Lease)

-- What contracts see of a table.
pub record TableValue : Type 0 where
  pub config : ConfigValue
  pub last : ℕ
  pub rows : Rows

-- the leases that live at a time
unfoldable pub leases_at : ℕ → Rows → Leases
leases_at moment rows name = map (λ row. row.1) (filter (λ row. same_name row.0 name && is_live moment row.1) rows)

-- how many leases live at a time, over all names
unfoldable pub live_count : ℕ → Rows → ℕ
live_count moment rows = length (filter (λ row. is_live moment row.1) rows)

-- how many leases of this address live at a time, over all names
unfoldable pub count_of : ℕ → (addr : ℕ) → Rows → ℕ
count_of moment addr rows = length (filter (λ row. nat_eq row.1.addr addr && is_live moment row.1) rows)

-- the same leases, but these for this name
abbrev pub at_name : NameValue → List Lease → Leases → Leases
at_name name leases others q = if same_name q name then leases else others q

-- no lease of this address
abbrev pub HasNone : ℕ → List Lease → Type 0
HasNone addr leases = AllByRecursion (λ lease. lease.addr ≢ addr) leases

abbrev pub AreGroup : List Lease → Type 0
AreGroup leases = AllByRecursion (λ lease. lease.kind ≡ Group) leases

-- no two leases of one address
abbrev pub AreApart : List Lease → Type 0
AreApart [] = ⊤
AreApart (lease ∷ leases) = HasNone lease.addr leases × AreApart leases

-- all of a group, or one unique lease
pub data AreOneKind (leases : List Lease) : Type 0 where
  group : AreGroup leases → AreOneKind leases
  unique : (lease : Lease) → leases ≡ lease ∷ [] → lease.kind ≡ Unique → AreOneKind leases

-- a lease that is granted by a time expires by then at the latest
abbrev pub latest_end : ConfigValue → ℕ → ℕ
latest_end config moment = moment + milliseconds config.longest

-- the most live members of a group
abbrev pub members_most : ℕ
members_most = 1000

-- What holds of the live leases of a name: no more than a group has, no two of one address, all of a group or one
-- unique, and none expires too late.
pub record AreSound (latest : ℕ) (leases : List Lease) : Type 0 where
  pub apart : AreApart leases
  pub one_kind : AreOneKind leases
  pub most : length leases ≤ members_most
  pub in_time : AllByRecursion (λ lease. lease.end ≤ latest) leases

abbrev pub IsSound : ConfigValue → (moment : ℕ) → Leases → Type 0
IsSound config moment leases = (name : NameValue) → AreSound (latest_end config moment) (leases name)
