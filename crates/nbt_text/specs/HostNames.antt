-- The names of hosts, and their lines for a resolver (our profile).
use Rattle.std.specs.Prelude.{◌≡◌, ◌≢◌, ◌⊎◌, ℕ, ◌-◌, ◌<◌, ◌≤◌, List, ◌++◌, length, slice_index, codes}
use Rattle.nbt_text.specs.Address.{dotted}
use Rattle.nbt_text.specs.Lines.{newline}

abbrev pub hyphen : ℕ
hyphen = 0x2D

abbrev pub IsDigit : ℕ → Type 0
IsDigit octet = (0x30 ≤ octet) × (octet ≤ 0x39)

-- a capital or a small letter
abbrev pub IsLetter : ℕ → Type 0
IsLetter octet = ((0x41 ≤ octet) × (octet ≤ 0x5A)) ⊎ ((0x61 ≤ octet) × (octet ≤ 0x7A))

abbrev pub IsHostCharacter : ℕ → Type 0
IsHostCharacter octet = IsLetter octet ⊎ (IsDigit octet ⊎ (octet ≡ hyphen))

-- One to fifteen letters, digits and hyphens, and no hyphen at an end (RFC 952, RFC 1123 section 2.1).
pub record IsHostName (host : List ℕ) : Type 0 where
  pub some : 0 < length host
  pub few : length host ≤ 15
  pub characters : (k : ℕ) → k < length host → IsHostCharacter (slice_index host k)
  pub first : slice_index host 0 ≢ hyphen
  pub last : slice_index host (length host - 1) ≢ hyphen

-- as in /etc/hosts
abbrev pub host_line : (addr : ℕ) → (host : List ℕ) → List ℕ
host_line addr host = dotted addr ++ codes " " ++ host ++ newline
