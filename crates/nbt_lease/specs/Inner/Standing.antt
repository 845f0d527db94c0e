-- How a requester stands with a name, as the code finds it (private functions alone).
use Rattle.std.specs.Prelude.{◌≡◌, ℕ, ◌<◌, ◌↔◌, true, false, IsTrue, List, [], ◌∷◌, ◌++◌, length}
use Rattle.nbt_lease.specs.declared.standing.Standing.{Standing}
use Rattle.nbt_lease.specs.declared.lease.Lease.{Lease}
use Rattle.nbt_lease.specs.Lease.{HasNone, AreGroup, AreOneKind, members_most}

-- An address has one of these leases.
pub record HasOne (addr : ℕ) (leases : List Lease) : Type 0 where
  pub before : List Lease
  pub lease : Lease
  pub behind : List Lease
  pub is : leases ≡ before ++ lease ∷ behind
  pub owner_is : lease.addr ≡ addr

-- How the address stands among these leases of the name.
pub record StandsIn (addr : ℕ) (leases : List Lease) (standing : Standing) : Type 0 where
  pub members : standing.members ≡ length leases
  pub group : IsTrue standing.group ↔ AreGroup leases
  pub own : standing.own ≡ true → HasOne addr leases
  pub none : standing.own ≡ false → HasNone addr leases

-- A lease of a further address may stand last among these.
pub record MayStand (lease : Lease) (leases : List Lease) : Type 0 where
  pub none : HasNone lease.addr leases
  pub room : length leases < members_most
  pub one_kind : AreOneKind (leases ++ lease ∷ [])
