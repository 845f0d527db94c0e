-- Leases that stand in the way of fixed names: the server goes on with them, and another machine than the name's may hold the name by
-- them until they end (our profile).
use Rattle.std.specs.Prelude.{◌≡◌, ℕ, ◌<◌, Bool, true, false, not, ◌&&◌, nat_eq, nat_lt, List, [], filter, map, Any, Option, Some, None}
use Rattle.std.specs.List.{list_any}
use Rattle.nbt_name.specs.Wire.{NameValue, same_name}
use Rattle.nbt_name.specs.declared.addr.Kind.{Kind}
use Rattle.nbt_name.specs.declared.addr.Kind.TheVariants.{Unique, Group}
use Rattle.nbt_packet.specs.Message.{release}
use Rattle.nbt_packet.specs.Spelling.{Spells}
use Rattle.nbt_lease.specs.Lease.{Rows}
use Rattle.nbt_lease.specs.declared.lease.Lease.{Lease}
use Rattle.nbt_port.specs.declared.port.Route.{Route}
use Rattle.nbt_port.specs.PortCalls.{PortCall, came}
use Rattle.nbt_front.specs.FixedNames.{FixedNames, FixedValue, fixed_of}

-- both are a group
abbrev pub are_group : Kind → Kind → Bool
are_group Group Group = true
are_group Group Unique = false
are_group Unique other = false

-- A lease of a name stands in the way of what is fixed of it, where one of the fixed addresses is another one than the lease's, and not
-- both are a group.
abbrev pub is_in_the_way : Option FixedValue → Lease → Bool
is_in_the_way None lease = false
is_in_the_way (Some fixed) lease = not (are_group fixed.kind lease.kind) && list_any (λ addr. not (nat_eq addr lease.addr)) fixed.addrs

-- those of these leases that do
abbrev pub in_the_way : FixedNames → Rows → Rows
in_the_way names rows = filter (λ row. is_in_the_way (fixed_of names row.0) row.1) rows

-- one of them is of this name, and isn't over
abbrev pub IsLeased : Rows → (now : ℕ) → NameValue → Type 0
IsLeased kept now name = Any (λ row. (row.0 ≡ name) × (now < row.1.end)) kept

-- ---- a holder that releases its lease

-- what a release of the name by this address leaves of them
abbrev pub without : NameValue → (addr : ℕ) → Rows → Rows
without name addr kept = filter (λ row. not (same_name row.0 name && nat_eq row.1.addr addr)) kept

-- octets of the sender at this address spell a release of the name by that address
abbrev pub ReleasesOwn : (ip : ℕ) → (octets : List ℕ) → NameValue → Type 0
ReleasesOwn ip octets name = (id : ℕ) × (kind : Kind) × Spells octets (release id name kind ip)

-- the call is a datagram that releases a name so
abbrev pub IsOwnRelease : PortCall → Type 0
IsOwnRelease call = (from : Route) × (octets : List ℕ) × (name : NameValue) × (call ≡ came from octets) × ReleasesOwn from.peer.ip octets name

-- What is left of them after a call: a release takes the lease of its own address out, and nothing else does.
pub data Leaves (kept : Rows) : PortCall → Rows → Type 0 where
  takes_out : (from : Route) (octets : List ℕ) (name : NameValue) → ReleasesOwn from.peer.ip octets name → Leaves kept (came from octets) (without name from.peer.ip kept)
  leaves_all : (call : PortCall) → ¬ IsOwnRelease call → Leaves kept call kept
  leaves_none : (call : PortCall) → kept ≡ [] → Leaves kept call kept

-- ---- names that were fixed otherwise before: a machine that was confirmed may hold its name for the longest lease

-- what machines may have by what was fixed of a name: a lease for each of its addresses, until then
abbrev pub leases_of : (end : ℕ) → NameValue × FixedValue → Rows
leases_of end entry = map (λ addr. (entry.0, record { addr = addr; kind = entry.1.kind; end = end })) entry.1.addrs

-- Another machine could get the name of such a lease: the name is fixed no longer, or the lease stands in its way.
abbrev pub is_left : Option FixedValue → Lease → Bool
is_left None lease = true
is_left (Some fixed) lease = is_in_the_way (Some fixed) lease

-- those of these leases, but those that are over
abbrev pub left_of : FixedNames → (at : ℕ) → Rows → Rows
left_of names at rows = filter (λ row. nat_lt at row.1.end && is_left (fixed_of names row.0) row.1) rows

-- One of these leases isn't over, and a claim of the name from this address, as this kind, would make a second holder.
abbrev pub takes : (now : ℕ) → NameValue → Kind → (ip : ℕ) → NameValue × Lease → Bool
takes now name kind ip row = same_name row.0 name && (nat_lt now row.1.end && (not (are_group kind row.1.kind) && not (nat_eq ip row.1.addr)))

abbrev pub is_taken : Rows → (now : ℕ) → NameValue → Kind → (ip : ℕ) → Bool
is_taken past now name kind ip = list_any (takes now name kind ip) past
