-- How live names that read alike are spelled (our profile).
use Rattle.std.specs.Prelude.{◌≡◌, ◌≢◌, ◌⊎◌, ℕ, List, Contains, Option, Some, None, if◌then◌else◌}
use Rattle.std.specs.Map.{lookup}
use Rattle.std.specs.Str.{bytes_eq}
use Rattle.nbt_name.specs.Wire.{NameValue}
use Rattle.nbt_lease.specs.declared.lease.Lease.{Lease}
use Rattle.nbt_lease.specs.Lease.{Rows}
use Rattle.nbt_log.specs.Hosts.{in_capitals, Reads}
use Rattle.nbt_log.specs.declared.casing.Spelling.{Spelling}
use Rattle.nbt_log.specs.declared.casing.Spelling.TheVariants.{One, Several}

-- octets in capitals, each with how the names that read so are spelled
abbrev pub Cases : Type 0
Cases = List (List ℕ × Spelling)

abbrev pub spelled : Cases → List ℕ → Option Spelling
spelled cases capitals = lookup (bytes_eq capitals) cases

-- what one more name of these octets makes of it
abbrev pub noted : Option Spelling → List ℕ → Spelling
noted None octets = One octets
noted (Some (One one)) octets = if bytes_eq one octets then One one else Several
noted (Some Several) octets = Several

-- all that read so have these octets
abbrev pub IsOnly : Option Spelling → List ℕ → Type 0
IsOnly None octets = Unit {0}
IsOnly (Some (One one)) octets = one ≡ octets
IsOnly (Some Several) octets = ⊥

-- A live name of these octets was noted.
abbrev pub Notes : (octets : List ℕ) → (old new : Cases) → Type 0
Notes octets old new =
    (capitals : List ℕ) → spelled new capitals ≡ (if bytes_eq (in_capitals octets) capitals then Some (noted (spelled old (in_capitals octets)) octets) else spelled old capitals)

-- what a resolver may be told, by the cases of the live names
pub record IsClearIn (fixed : List (List ℕ)) (cases : Cases) (octets : List ℕ) : Type 0 where
  pub not_fixed : ¬ Contains fixed (in_capitals octets)
  pub one_case : (in_capitals octets ≡ octets) ⊎ IsOnly (spelled cases (in_capitals octets)) octets

-- What is known of the live names of these rows that read so: there is none; all have these octets, and there is one; or two differ.
pub data Knows (now : ℕ) (rows : Rows) (capitals : List ℕ) : Option Spelling → Type 0 where
  of_none : ((row : NameValue × Lease) → Contains rows row → ¬ Reads now capitals row) → Knows now rows capitals None
  of_one : (one : List ℕ) (first : NameValue × Lease) → Contains rows first → Reads now capitals first → first.0.octets ≡ one
      → ((row : NameValue × Lease) → Contains rows row → Reads now capitals row → row.0.octets ≡ one) → Knows now rows capitals (Some (One one))
  of_several : (first second : NameValue × Lease) → Contains rows first → Contains rows second → Reads now capitals first → Reads now capitals second
      → first.0.octets ≢ second.0.octets → Knows now rows capitals (Some Several)

abbrev pub KnowsAll : (now : ℕ) → Rows → Cases → Type 0
KnowsAll now rows cases = (capitals : List ℕ) → Knows now rows capitals (spelled cases capitals)
