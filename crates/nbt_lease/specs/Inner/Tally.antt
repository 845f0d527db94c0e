-- How many leases each address has (private types alone).
use Rattle.std.specs.Prelude.{◌≡◌, ℕ, nat_eq, List, length, unwrap_or}
use Rattle.std.specs.List.{filter, IsDistinct}
use Rattle.std.specs.Map.{lookup}
use Rattle.nbt_lease.specs.declared.ends.Due.{Due}
use Rattle.nbt_lease.specs.Inner.Index.{is_due}

-- the count that is kept of an address; 0 where none is
abbrev pub kept : List (ℕ × ℕ) → (addr : ℕ) → ℕ
kept counts addr = unwrap_or (lookup (nat_eq addr) counts) 0

-- how many of these expiries are of this address
abbrev pub dues_of_client : (addr : ℕ) → List Due → ℕ
dues_of_client addr ends = length (filter (λ d. nat_eq d.addr addr) ends)

-- The counts are those of the expiries, of which none stands twice.
pub record Tallies (counts : List (ℕ × ℕ)) (ends : List Due) : Type 0 where
  pub once : IsDistinct is_due ends
  pub each : (addr : ℕ) → kept counts addr ≡ dues_of_client addr ends
