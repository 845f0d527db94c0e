-- The hosts of a name server, a line as in /etc/hosts for each (our profile).
use Rattle.std.specs.Prelude.{◌≡◌, ◌⊎◌, ℕ, ◌-◌, ◌<◌, List, [], ◌++◌, length, replicate, codes, map, Contains}
use Rattle.std.specs.Char.{to_ascii_uppercase}
use Rattle.nbt_name.specs.Wire.{NameValue}
use Rattle.nbt_name.specs.declared.addr.Kind.TheVariants.{Unique}
use Rattle.nbt_lease.specs.declared.lease.Lease.{Lease}
use Rattle.nbt_lease.specs.Lease.{Rows}
use Rattle.nbt_text.specs.HostNames.{IsHostName, host_line}
use Rattle.nbt_text.specs.Lines.{newline}
use Rattle.nbt_text.specs.Texts.{PrintsEach}

-- ---- the name of a file server
abbrev pub space : ℕ
space = 0x20

abbrev pub IsSpace : ℕ → Type 0
IsSpace octet = octet ≡ space

-- what a file server's name is: filled up with spaces to fifteen characters, and the suffix 20, which is a space too
abbrev pub server_octets : (host : List ℕ) → List ℕ
server_octets host = host ++ replicate (16 - length host) space

-- the name of this host's file server, without a scope
pub record IsHost (name : NameValue) (host : List ℕ) : Type 0 where
  pub no_scope : name.scope ≡ []
  pub octets_are : name.octets ≡ server_octets host
  pub is_name : IsHostName host

-- ---- names that read alike: a name server tells small letters from capitals, a resolver doesn't
abbrev pub in_capitals : List ℕ → List ℕ
in_capitals octets = map to_ascii_uppercase octets

-- The lease of a row lives, and its name has these octets in capitals.
pub record Reads (now : ℕ) (capitals : List ℕ) (row : NameValue × Lease) : Type 0 where
  pub lives : now < row.1.end
  pub alike : in_capitals row.0.octets ≡ capitals

-- no live lease has these letters in another case
abbrev pub IsAlone : (now : ℕ) → Rows → (octets : List ℕ) → Type 0
IsAlone now rows octets = (row : NameValue × Lease) → Contains rows row → Reads now (in_capitals octets) row → row.0.octets ≡ octets

-- Octets that a resolver may be told: those of no name that is fixed, in whatever case, and in capitals, or else alone.
pub record IsClear (now : ℕ) (rows : Rows) (fixed : List (List ℕ)) (octets : List ℕ) : Type 0 where
  pub not_fixed : ¬ Contains fixed (in_capitals octets)
  pub one_case : (in_capitals octets ≡ octets) ⊎ IsAlone now rows octets

-- ---- lines

-- The lease of a row lives, and is that of this host, whose octets may be told.
pub record HasHost (MayTell : List ℕ → Type 0) (now : ℕ) (row : NameValue × Lease) (host : List ℕ) : Type 0 where
  pub lives : now < row.1.end
  pub unique : row.1.kind ≡ Unique
  pub is_host : IsHost row.0 host
  pub told : MayTell row.0.octets

-- a row of a host has a line, and no other
pub data PrintsHost (MayTell : List ℕ → Type 0) (now : ℕ) (row : NameValue × Lease) : List ℕ → Type 0 where
  listed : (host : List ℕ) → HasHost MayTell now row host → PrintsHost MayTell now row (host_line row.1.addr host)
  left_out : ((host : List ℕ) → ¬ HasHost MayTell now row host) → PrintsHost MayTell now row []

-- the first line, which says what a file is
abbrev pub hosts_head : List ℕ
hosts_head = codes "# hosts of nbt nbns" ++ newline

-- the hosts of these rows, beside names that are fixed, given by their octets in capitals
abbrev pub IsHosts : (now : ℕ) → Rows → (fixed : List (List ℕ)) → List ℕ → Type 0
IsHosts now rows fixed text = (lines : List ℕ) × PrintsEach (PrintsHost (IsClear now rows fixed) now) rows lines × (text ≡ hosts_head ++ lines)
