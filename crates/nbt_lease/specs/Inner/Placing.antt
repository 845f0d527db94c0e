-- What a grant's steps make of the leases (private functions alone).
use Rattle.std.specs.Prelude.{◌≡◌, ◌≢◌, ℕ, ◌<◌, ◌≤◌, List, length, Result, Err, OnErr}
use Rattle.nbt_name.specs.Wire.{NameValue}
use Rattle.nbt_lease.specs.declared.lease.Lease.{Lease}
use Rattle.nbt_lease.specs.declared.lease.Grant.{Grant}
use Rattle.nbt_lease.specs.declared.fault.GrantFault.{GrantFault}
use Rattle.nbt_lease.specs.declared.fault.GrantFault.TheVariants.{OutOfMemory}
use Rattle.nbt_lease.specs.Lease.{Leases, TableValue, leases_at, live_count, members_most, HasNone}
use Rattle.nbt_lease.specs.Rules.{Asked, IsAllowed, Grants, ChangesLeases}
use Rattle.nbt_lease.specs.Inner.Index.{Entries, living, rows_of}

-- Those of these leases that live now are a table's. Others may stand among them, but only where there is room beside them.
pub record HoldsLive (table : TableValue) (now : ℕ) (entries : Entries) : Type 0 where
  pub leases : living now entries ≡ leases_at now table.rows
  pub full : table.config.rows ≤ length (rows_of entries) → table.config.rows ≤ live_count now table.rows

-- A lease may begin among these, if the table isn't full.
pub record MayBegin (a : Asked) (leases : List Lease) : Type 0 where
  pub allowed : IsAllowed a leases
  pub none : HasNone a.addr leases
  pub room : length leases < members_most

-- What a grant returns, and the leases after it.
pub record Places (table : TableValue) (now : ℕ) (name : NameValue) (a : Asked) (result : Result Grant GrantFault) (after : Leases) : Type 0 where
  pub rule : result ≢ Err OutOfMemory → Grants table now name a result after
  pub memory : result ≡ Err OutOfMemory → ChangesLeases table now name a
  pub refused : OnErr result (after ≡ leases_at now table.rows)
