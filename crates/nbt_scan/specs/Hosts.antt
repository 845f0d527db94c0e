-- What a node's names say of its host (RFC 1002 section 4.2.18; Microsoft's suffixes).
use Rattle.std.specs.Prelude.{◌≡◌, ◌<◌, ℕ, Bool, true, false, not, ◌&&◌, ◌||◌, nat_eq, nat_lt, if◌then◌else◌, List, ◌++◌, length, take, replicate, slice_index, Option, Some, None}
use Rattle.std.specs.Str.{bytes_eq}
use Rattle.nbt_scan.specs.declared.host.Host.{Host}
use Rattle.nbt_scan.specs.declared.host.Wanted.{Wanted}
use Rattle.nbt_scan.specs.declared.host.Wanted.TheVariants.{Unique, Group, Other}

-- ---- one of the names, of eighteen octets: the sixteen, and NAME_FLAGS, whose first bit is G

abbrev pub is_unique : List ℕ → Bool
is_unique name = nat_lt (slice_index name 16) 0x80

abbrev pub has_suffix : (suffix : ℕ) → List ℕ → Bool
has_suffix suffix name = nat_eq (slice_index name 15) suffix

-- one machine's name with this suffix, a group's, or one machine's that differs from another in the octets before the suffix
abbrev pub passes : Wanted → List ℕ → Bool
passes (Unique suffix) name = has_suffix suffix name && is_unique name
passes (Group suffix) name = has_suffix suffix name && not (is_unique name)
passes (Other suffix front) name = has_suffix suffix name && is_unique name && not (bytes_eq (take 15 name) front)

-- the first name that passes, if one does
pub data IsFirst (test : List ℕ → Bool) : List ℕ → Option (List ℕ) → Type 0 where
  in_none : (rest : List ℕ) → length rest < 18 → IsFirst test rest None
  in_first : (name rest : List ℕ) → length name ≡ 18 → test name ≡ true → IsFirst test (name ++ rest) (Some name)
  in_rest : (name rest : List ℕ) (found : Option (List ℕ)) → length name ≡ 18 → test name ≡ false → IsFirst test rest found → IsFirst test (name ++ rest) found

-- ---- the host

-- Who is logged in: the name of a messenger that isn't the computer's.
abbrev pub user_of : (computer : Option (List ℕ)) → Wanted
user_of None = Unique 0x03
user_of (Some computer) = Other 0x03 (take 15 computer)

-- the unit id, the first six octets of the statistics, where it is there and isn't zero
abbrev pub unit_of : (statistics : List ℕ) → Option (List ℕ)
unit_of statistics = if nat_lt (length statistics) 6 || bytes_eq (take 6 statistics) (replicate 6 0) then None else Some (take 6 statistics)

-- its computer's name, its workgroup, its user, and its file server's name
pub record IsHost (names statistics : List ℕ) (host : Host) : Type 0 where
  pub computer : IsFirst (passes (Unique 0x00)) names host.computer
  pub group : IsFirst (passes (Group 0x00)) names host.group
  pub user : IsFirst (passes (user_of host.computer)) names host.user
  pub server : IsFirst (passes (Unique 0x20)) names host.server
  pub unit : host.unit ≡ unit_of statistics
