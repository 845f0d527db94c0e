-- The networks, ranges and addresses that texts spell (our profile).
use Rattle.std.specs.Prelude.{◌≡◌, ◌⊎◌, ℕ, ◌+◌, ◌-◌, ◌*◌, ◌/◌, ◌^◌, ◌<◌, ◌==◌, nat_lt, if◌then◌else◌, List, length}
use Rattle.std.specs.List.{before_first, after_first, position_or_len}
use Rattle.std.specs.Net.Addr.{ipv4_bits}
use Rattle.std.specs.Net.Grammar.{IsIpv4Text}
use Rattle.std.specs.declared.net.ipv4_addr.Ipv4Addr.{Ipv4Addr}
use Rattle.nbt_text.specs.Number.{SpellsWithin}
use Rattle.nbt_scan.specs.declared.span.Span.{Span}

-- what stands before the first such mark, and behind it
abbrev pub before : (mark : ℕ) → List ℕ → List ℕ
before mark text = before_first (λ octet. octet == mark) text

abbrev pub behind : (mark : ℕ) → List ℕ → List ℕ
behind mark text = after_first (λ octet. octet == mark) text

abbrev pub Has : (mark : ℕ) → List ℕ → Type 0
Has mark text = position_or_len (λ octet. octet == mark) text < length text

abbrev pub HasNone : (mark : ℕ) → List ℕ → Type 0
HasNone mark text = position_or_len (λ octet. octet == mark) text ≡ length text

-- four numbers up to 255 with dots between
abbrev pub SpellsIp : List ℕ → (ip : ℕ) → Type 0
SpellsIp text ip = (addr : Ipv4Addr) × IsIpv4Text text addr × (ip ≡ ipv4_bits addr)

-- How many addresses a network of so many bits has. Of less than 31 bits, its first and its last are of no host (RFC 3021).
abbrev pub addresses_of : (bits : ℕ) → ℕ
addresses_of bits = 2 ^ (32 - bits)

abbrev pub margin : (bits : ℕ) → ℕ
margin bits = if nat_lt bits 31 then 1 else 0

-- as 192.0.2.0/24: the addresses of the network that has this one
pub record SpellsNetwork (front digits : List ℕ) (span : Span) : Type 0 where
  pub ip : ℕ
  pub bits : ℕ
  pub ip_is : SpellsIp front ip
  pub bits_are : SpellsWithin 16 32 digits bits
  pub first_is : span.first ≡ ip / addresses_of bits * addresses_of bits + margin bits
  pub last_is : span.last + margin bits + 1 ≡ ip / addresses_of bits * addresses_of bits + addresses_of bits

-- The last address of a range, or its last number alone.
abbrev pub SpellsLast : (first : ℕ) → List ℕ → (last : ℕ) → Type 0
SpellsLast first text last = (Has 0x2E text × SpellsIp text last) ⊎ ((number : ℕ) × HasNone 0x2E text × SpellsWithin 0 255 text number × (last ≡ first / 256 * 256 + number))

-- as 192.0.2.10-192.0.2.20 or 192.0.2.10-20
pub record SpellsRange (front back : List ℕ) (span : Span) : Type 0 where
  pub first_is : SpellsIp front span.first
  pub last_is : SpellsLast span.first back span.last

-- a network, a range, or an address
pub data SpellsSpan (text : List ℕ) (span : Span) : Type 0 where
  network : Has 0x2F text → SpellsNetwork (before 0x2F text) (behind 0x2F text) span → SpellsSpan text span
  range : HasNone 0x2F text → Has 0x2D text → SpellsRange (before 0x2D text) (behind 0x2D text) span → SpellsSpan text span
  address : HasNone 0x2F text → HasNone 0x2D text → SpellsIp text span.first → span.last ≡ span.first → SpellsSpan text span
