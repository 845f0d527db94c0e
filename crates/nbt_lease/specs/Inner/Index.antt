-- The leases of each name, and the set of their expiries (private types alone).
use Rattle.std.specs.Prelude.{◌≡◌, ◌≢◌, ℕ, ◌<◌, max, Bool, ◌&&◌, nat_eq, nat_le, List, [], ◌∷◌, ◌++◌, map, filter, Option, Some, None, if◌then◌else◌, unwrap_or}
use Rattle.std.specs.List.{list_any, IsDistinct, AllByRecursion}
use Rattle.std.specs.Map.{lookup, keys_of}
use Rattle.nbt_name.specs.Wire.{NameValue, same_name}
use Rattle.nbt_lease.specs.declared.lease.Lease.{Lease}
use Rattle.nbt_lease.specs.declared.ends.Due.{Due}
use Rattle.nbt_lease.specs.Lease.{Leases, Rows, is_live, at_name, AreApart}

-- each name with its members, in order of their beginnings
abbrev pub Entries : Type 0
Entries = List (NameValue × List Lease)

-- the members of a name; none where the name isn't there
abbrev pub members_of : Entries → Leases
members_of entries name = unwrap_or (lookup (same_name name) entries) []

-- those of them that live at a time: others may stand among them, and count for nothing
abbrev pub living : ℕ → Entries → Leases
living moment entries name = filter (is_live moment) (members_of entries name)

-- the same as rows
abbrev pub rows_of : Entries → Rows
rows_of [] = []
rows_of (entry ∷ entries) = map (λ lease. (entry.0, lease)) entry.1 ++ rows_of entries

-- when the lease of a name and an address expires
abbrev pub due : ℕ → NameValue → ℕ → Due
due end name addr = record { end = end; name = name; addr = addr }

abbrev pub is_due : Due → Due → Bool
is_due a b = same_name a.name b.name && (nat_eq a.addr b.addr && nat_eq a.end b.end)

abbrev pub in_set : List Due → Due → Bool
in_set ends d = list_any (λ e. is_due e d) ends

-- whether a member of this address expires then
abbrev pub has_end : ℕ → ℕ → List Lease → Bool
has_end end addr leases = list_any (λ lease. nat_eq lease.addr addr && nat_eq lease.end end) leases

-- whether a member of this address is over at a time
abbrev pub has_over : ℕ → ℕ → List Lease → Bool
has_over addr moment leases = list_any (λ lease. nat_eq lease.addr addr && nat_le lease.end moment) leases

-- The set of expiries agrees with the map: it holds the expiry, name and address of each member, and nothing else.
pub record Agrees (entries : Entries) (ends : List Due) : Type 0 where
  pub names : IsDistinct same_name (keys_of entries)
  pub filled : (name : NameValue) → lookup (same_name name) entries ≢ Some []
  pub apart : (name : NameValue) → AreApart (members_of entries name)
  pub once : IsDistinct is_due ends
  pub agree : (d : Due) → in_set ends d ≡ has_end d.end d.addr (members_of entries d.name)

-- whether a lease is of this address, and lives
abbrev pub is_live_of : ℕ → ℕ → Lease → Bool
is_live_of addr moment lease = nat_eq lease.addr addr && is_live moment lease

-- none is over at this time
abbrev pub AreLive : ℕ → List Lease → Type 0
AreLive moment leases = AllByRecursion (λ lease. moment < lease.end) leases

-- The member of an address, with those before it and those after it.
pub record IsMember (addr : ℕ) (leases before : List Lease) (lease : Lease) (behind : List Lease) : Type 0 where
  pub is : leases ≡ before ++ lease ∷ behind
  pub owner_is : lease.addr ≡ addr

-- the list, or nothing where it is empty
abbrev pub if_any : List Lease → Option (List Lease)
if_any [] = None
if_any (lease ∷ leases) = Some (lease ∷ leases)

-- The member of an address was removed from its name, and the name with its last member.
pub record TakenFrom (old new : Entries) (name : NameValue) (addr : ℕ) (lease : Lease) : Type 0 where
  pub before : List Lease
  pub behind : List Lease
  pub member : IsMember addr (members_of old name) before lease behind
  pub left : (q : NameValue) → lookup (same_name q) new ≡ (if same_name name q then if_any (before ++ behind) else lookup (same_name q) old)

-- The member of an address expires later, if this expiry is later than its own.
pub record Renewed (old : Leases) (name : NameValue) (addr end until : ℕ) (after : Leases) : Type 0 where
  pub before : List Lease
  pub lease : Lease
  pub behind : List Lease
  pub member : IsMember addr (old name) before lease behind
  pub until_is : until ≡ max lease.end end
  pub after_is : after ≡ at_name name (before ++ record lease { end = until } ∷ behind) old

-- The expiry of the member of an address would move.
pub record Moves (old : Leases) (name : NameValue) (addr end : ℕ) : Type 0 where
  pub before : List Lease
  pub lease : Lease
  pub behind : List Lease
  pub member : IsMember addr (old name) before lease behind
  pub later : lease.end < end

-- The member of an address is gone.
pub record Ended (old : Leases) (name : NameValue) (addr : ℕ) (after : Leases) : Type 0 where
  pub before : List Lease
  pub lease : Lease
  pub behind : List Lease
  pub member : IsMember addr (old name) before lease behind
  pub after_is : after ≡ at_name name (before ++ behind) old
