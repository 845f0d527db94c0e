-- What a grant and a release make of the live leases (our profile).
use Rattle.std.specs.Prelude.{◌≡◌, ◌≢◌, ℕ, ◌+◌, ◌<◌, ◌≤◌, ◌⊎◌, max, Bool, true, false, List, [], ◌∷◌, ◌++◌, length, Option, Some, None, Result, Ok, Err, Any, All, Contains}
use Rattle.nbt_name.specs.declared.addr.Kind.{Kind}
use Rattle.nbt_name.specs.declared.addr.Kind.TheVariants.{Unique, Group}
use Rattle.nbt_name.specs.Wire.{NameValue}
use Rattle.nbt_lease.specs.declared.lease.Lease.{Lease}
use Rattle.nbt_lease.specs.declared.lease.Grant.{Grant}
use Rattle.nbt_lease.specs.declared.lease.Released.{Released}
use Rattle.nbt_lease.specs.declared.lease.Released.TheVariants.{Gone, NoLease, OfOthers}
use Rattle.nbt_lease.specs.declared.fault.GrantFault.{GrantFault}
use Rattle.nbt_lease.specs.declared.fault.GrantFault.TheVariants.{Active, TableFull, GroupFull}
use Rattle.nbt_lease.specs.Config.{ConfigValue, granted, milliseconds}
use Rattle.nbt_lease.specs.Lease.{Leases, TableValue, leases_at, live_count, members_most, at_name, HasNone, AreGroup}

-- A request for a lease: by which address, of which kind, and for how many seconds.
pub record Asked : Type 0 where
  pub addr : ℕ
  pub kind : Kind
  pub ttl : ℕ

abbrev pub asked : ℕ → Kind → ℕ → Asked
asked addr kind ttl = record { addr = addr; kind = kind; ttl = ttl }

-- A grant is allowed where the name is free, to a further member of a group, and to the owner of a unique name.
pub data IsAllowed (a : Asked) (leases : List Lease) : Type 0 where
  free : leases ≡ [] → IsAllowed a leases
  member : AreGroup leases → a.kind ≡ Group → IsAllowed a leases
  owner : (lease : Lease) → leases ≡ lease ∷ [] → lease.addr ≡ a.addr → lease.kind ≡ Unique → a.kind ≡ Unique → IsAllowed a leases

-- the expiry of a lease that is granted now
abbrev pub end_of : ConfigValue → ℕ → Asked → ℕ
end_of config now a = now + milliseconds (granted config.longest a.ttl)

abbrev pub grant_until : ConfigValue → Asked → (end : ℕ) → (renewed : Bool) → Grant
grant_until config a end renewed = record { seconds = granted config.longest a.ttl; end = end; renewed = renewed }

-- a lease that begins, and one that is renewed: its expiry never gets earlier
abbrev pub begun : ConfigValue → ℕ → Asked → Lease
begun config now a = record { addr = a.addr; kind = a.kind; end = end_of config now a }

abbrev pub renewed : ConfigValue → ℕ → Asked → Lease → Lease
renewed config now a lease = record lease { end = max lease.end (end_of config now a) }

-- What a grant returns, and what it makes of the live leases of the name, a line for each case; `count` leases live
-- over all names.
pub data GrantCase (config : ConfigValue) (now count : ℕ) (a : Asked) (leases : List Lease) : Result Grant GrantFault → List Lease → Type 0 where
  active : ¬ IsAllowed a leases → GrantCase config now count a leases (Err Active) leases
  renews : IsAllowed a leases → (before after : List Lease) (lease : Lease) → leases ≡ before ++ lease ∷ after → lease.addr ≡ a.addr
      → GrantCase config now count a leases (Ok (grant_until config a (max lease.end (end_of config now a)) true)) (before ++ renewed config now a lease ∷ after)
  group_full : IsAllowed a leases → HasNone a.addr leases → members_most ≤ length leases → GrantCase config now count a leases (Err GroupFull) leases
  table_full : IsAllowed a leases → HasNone a.addr leases → length leases < members_most → config.rows ≤ count → GrantCase config now count a leases (Err TableFull) leases
  begins : IsAllowed a leases → HasNone a.addr leases → length leases < members_most → count < config.rows
      → GrantCase config now count a leases (Ok (grant_until config a (end_of config now a) false)) (leases ++ begun config now a ∷ [])

-- A grant changes the leases of its name alone.
pub record Grants (table : TableValue) (now : ℕ) (name : NameValue) (a : Asked) (result : Result Grant GrantFault) (after : Leases) : Type 0 where
  pub leases : List Lease
  pub rule : GrantCase table.config now (live_count now table.rows) a (leases_at now table.rows name) result leases
  pub after_is : after ≡ at_name name leases (leases_at now table.rows)

-- By the rule, other leases would live after the grant than before.
pub record ChangesLeases (table : TableValue) (now : ℕ) (name : NameValue) (a : Asked) : Type 0 where
  pub result : Grant
  pub after : Leases
  pub rule : Grants table now name a (Ok result) after
  pub other : after ≢ leases_at now table.rows

-- The one lease that the requester has after a grant: of the requested kind, expiring with the grant, as long as it was granted
-- for or as its lease lasted before, whichever is later.
pub record IsGranted (table : TableValue) (now : ℕ) (name : NameValue) (a : Asked) (grant : Grant) (after : List Lease) (lease : Lease) : Type 0 where
  pub stands : Contains after lease
  pub addr_is : lease.addr ≡ a.addr
  pub kind_is : lease.kind ≡ a.kind
  pub end_is : lease.end ≡ grant.end
  pub as_granted : end_of table.config now a ≤ lease.end
  pub no_earlier : (old : Lease) → Contains (leases_at now table.rows name) old → old.addr ≡ a.addr → old.end ≤ lease.end
  pub no_later : (lease.end ≡ end_of table.config now a) ⊎ ((old : Lease) × Contains (leases_at now table.rows name) old × (old.addr ≡ a.addr) × (lease.end ≡ old.end))
  pub only : (other : Lease) → Contains after other → other.addr ≡ a.addr → other ≡ lease

-- What a release returns, and what it makes of the live leases of the name: its kind isn't looked at.
pub data ReleaseCase (addr : ℕ) (leases : List Lease) : Released → List Lease → Type 0 where
  gone : (before after : List Lease) (lease : Lease) → leases ≡ before ++ lease ∷ after → lease.addr ≡ addr → ReleaseCase addr leases Gone (before ++ after)
  no_lease : leases ≡ [] → ReleaseCase addr leases NoLease leases
  of_others : leases ≢ [] → HasNone addr leases → ReleaseCase addr leases OfOthers leases

-- A release changes the leases of its name alone.
pub record Releases (table : TableValue) (now : ℕ) (name : NameValue) (addr : ℕ) (result : Released) (after : Leases) : Type 0 where
  pub leases : List Lease
  pub rule : ReleaseCase addr (leases_at now table.rows name) result leases
  pub after_is : after ≡ at_name name leases (leases_at now table.rows)

-- the first expiry
abbrev pub IsLeastEnd : List Lease → Option ℕ → Type 0
IsLeastEnd leases None = leases ≡ []
IsLeastEnd leases (Some end) = Any (λ lease. lease.end ≡ end) leases × All (λ lease. end ≤ lease.end) leases
