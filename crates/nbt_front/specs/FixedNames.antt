-- Names that are always there (our profile).
use Rattle.std.specs.Prelude.{ℕ, ◌<◌, ◌≤◌, List, length, map, Option}
use Rattle.std.specs.Map.{lookup}
use Rattle.nbt_name.specs.Wire.{NameValue, same_name}
use Rattle.nbt_name.specs.declared.addr.Kind.{Kind}
use Rattle.nbt_log.specs.Hosts.{in_capitals}
use Rattle.nbt_front.specs.Numbers.{addrs_most}

-- What is fixed of a name: its kind, and the addresses that have it.
pub record FixedValue : Type 0 where
  pub kind : Kind
  pub addrs : List ℕ

-- one address at least, and as many as fit in a response at most
pub record IsFixed (fixed : FixedValue) : Type 0 where
  pub some : 0 < length fixed.addrs
  pub few : length fixed.addrs ≤ addrs_most

-- each name with what is fixed of it
abbrev pub FixedNames : Type 0
FixedNames = List (NameValue × FixedValue)

-- what is fixed of this name, if it is among them
abbrev pub fixed_of : FixedNames → NameValue → Option FixedValue
fixed_of names name = lookup (same_name name) names

-- the octets of each name in capitals, whatever its scope
abbrev pub capitals_of : FixedNames → List (List ℕ)
capitals_of names = map (λ entry. in_capitals entry.0.octets) names
