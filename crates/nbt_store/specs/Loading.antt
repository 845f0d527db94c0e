-- What is loaded of a file (our profile).
use Rattle.std.specs.Prelude.{◌≡◌, ℕ, filter}
use Rattle.nbt_name.specs.Wire.{NameValue}
use Rattle.nbt_lease.specs.Lease.{Leases, Rows, leases_at, is_live}

-- at each time the rows have those of these leases that live then
abbrev pub AreRowsOf : Rows → Leases → Type 0
AreRowsOf rows leases = (moment : ℕ) (name : NameValue) → leases_at moment rows name ≡ filter (is_live moment) (leases name)
