-- Which boot of the machine it is (our profile).
use Rattle.std.specs.Prelude.{◌≡◌, ℕ, ◌<◌, ◌≤◌, List, length, slice_index}

-- a character that is no space
abbrev pub IsMark : ℕ → Type 0
IsMark octet = (0x21 ≤ octet) × (octet ≤ 0x7E)

abbrev pub AreMarks : List ℕ → Type 0
AreMarks octets = (k : ℕ) → k < length octets → IsMark (slice_index octets k)

-- A boot's id is a word of 1 to 36 characters, as Linux has it in /proc/sys/kernel/random/boot_id.
pub record IsBoot (boot : List ℕ) : Type 0 where
  pub some : 0 < length boot
  pub few : length boot ≤ 36
  pub marks : AreMarks boot

abbrev pub SpellsBoot : List ℕ → (boot : List ℕ) → Type 0
SpellsBoot word boot = (boot ≡ word) × IsBoot word
