-- Sixteen octets as people write them (our profile): FILER, FILER#20, FILER<20>, `*`, or `hex:` and 32 digits.
use Rattle.std.specs.Prelude.{◌≡◌, ◌≢◌, ℕ, ◌-◌, ◌<◌, ◌≤◌, ◌⊎◌, if◌then◌else◌, List, [], ◌∷◌, ◌++◌, length, map, slice_index, replicate, Ok}
use Rattle.std.specs.Char.{to_ascii_uppercase}
use Rattle.std.specs.Str.{bytes_eq}
use Rattle.hex.specs.Hex.{decode_of, encode_lower, encode_upper}
use Rattle.nbt_text.specs.NameText.{prefix, IsPrefixed}
use Rattle.nbt_text.specs.declared.casing.Case.{Case}
use Rattle.nbt_text.specs.declared.casing.Case.TheVariants.{Folded, Exact}
use Rattle.nbt_text.specs.declared.fault.Fault.{Fault}
use Rattle.nbt_text.specs.declared.fault.Fault.TheVariants as f

-- ---- the parts of a word

-- what a suffix begins with: `#` or `<`
abbrev pub IsMark : ℕ → Type 0
IsMark octet = (octet ≡ 0x23) ⊎ (octet ≡ 0x3C)

-- none of the octets is one of these
abbrev pub HasNone : (ℕ → Type 0) → List ℕ → Type 0
HasNone These octets = (k : ℕ) → k < length octets → ¬ These (slice_index octets k)

-- What stands before the first of these, and what begins with it, if anything.
pub record IsCutAt (These : ℕ → Type 0) (word front tail : List ℕ) : Type 0 where
  pub word_is : word ≡ front ++ tail
  pub none : HasNone These front
  pub first : (tail ≡ []) ⊎ These (slice_index tail 0)

-- ASCII that can be seen
abbrev pub IsPlain : ℕ → Type 0
IsPlain octet = (0x21 ≤ octet) × (octet ≤ 0x7E)

-- One to fifteen of them.
pub record IsFront (front : List ℕ) : Type 0 where
  pub some : 0 < length front
  pub few : length front ≤ 15
  pub plain : (k : ℕ) → k < length front → IsPlain (slice_index front k)

-- What fills up the fifteen, and is the suffix where none is written: a space, 20, which is a file server's suffix too.
-- `*` alone stands for all names, and is filled up with zeros (RFC 1002 section 4.2.17).
abbrev pub blank : List ℕ → ℕ
blank front = if bytes_eq front (0x2A ∷ []) then 0 else 0x20

pub data IsSuffix (usual : ℕ) (tail : List ℕ) (suffix : ℕ) : Type 0 where
  left_out : tail ≡ [] → suffix ≡ usual → IsSuffix usual tail suffix
  after_hash : (digits : List ℕ) → tail ≡ 0x23 ∷ digits → decode_of digits ≡ Ok (suffix ∷ []) → IsSuffix usual tail suffix
  in_brackets : (digits : List ℕ) → tail ≡ 0x3C ∷ (digits ++ 0x3E ∷ []) → decode_of digits ≡ Ok (suffix ∷ []) → IsSuffix usual tail suffix

-- ---- reading

-- small letters become capitals, unless the word is taken exactly
abbrev pub cased : Case → List ℕ → List ℕ
cased Folded octets = map to_ascii_uppercase octets
cased Exact octets = octets

abbrev pub fifteen : List ℕ → List ℕ
fifteen front = front ++ replicate (15 - length front) (blank front)

-- The word spells these sixteen octets.
pub data SpellsOctets (case : Case) (word octets : List ℕ) : Type 0 where
  in_characters : (front tail : List ℕ) (suffix : ℕ) → ¬ IsPrefixed word → IsCutAt IsMark word front tail → IsFront front → IsSuffix (blank front) tail suffix
      → octets ≡ cased case (fifteen front) ++ suffix ∷ [] → SpellsOctets case word octets
  in_digits : (digits : List ℕ) → word ≡ prefix ++ digits → decode_of digits ≡ Ok octets → length octets ≡ 16 → SpellsOctets case word octets

-- ---- what a word can have wrong

-- Places count from 0. The number of characters is reported before what they are.
pub data IsBadFront (front : List ℕ) : Fault → Type 0 where
  has_none : length front ≡ 0 → IsBadFront front f.Empty
  has_many : 15 < length front → IsBadFront front (f.Long (length front))
  has_other : (place : ℕ) → length front ≤ 15 → place < length front → ((k : ℕ) → k < place → IsPlain (slice_index front k)) → ¬ IsPlain (slice_index front place)
      → IsBadFront front (f.Character place)

-- The first thing that is wrong: with the digits after `hex:`, with the characters, with the suffix.
pub data Misspells (word : List ℕ) : Fault → Type 0 where
  bad_digits : (digits : List ℕ) → word ≡ prefix ++ digits → ((octets : List ℕ) → decode_of digits ≡ Ok octets → length octets ≢ 16) → Misspells word f.Digits
  bad_front : (front tail : List ℕ) (fault : Fault) → ¬ IsPrefixed word → IsCutAt IsMark word front tail → IsBadFront front fault → Misspells word fault
  bad_suffix : (front tail : List ℕ) → ¬ IsPrefixed word → IsCutAt IsMark word front tail → IsFront front → ((suffix : ℕ) → ¬ IsSuffix (blank front) tail suffix) → Misspells word f.Suffix

-- ---- printing

-- no small letters
abbrev pub AreCapital : List ℕ → Type 0
AreCapital octets = (k : ℕ) → k < length octets → to_ascii_uppercase (slice_index octets k) ≡ slice_index octets k

-- Characters that are read as they stand, whatever the case.
pub record IsSeen (front : List ℕ) : Type 0 where
  pub is_front : IsFront front
  pub unmarked : HasNone IsMark front
  pub capital : AreCapital front

-- FILER#20; what can't be printed so as `hex:` and digits.
pub data PrintsOctets : (octets word : List ℕ) → Type 0 where
  in_capitals : (front : List ℕ) (suffix : ℕ) → IsSeen front → PrintsOctets (fifteen front ++ suffix ∷ []) (front ++ 0x23 ∷ encode_upper (suffix ∷ []))
  in_hexadecimal : (octets : List ℕ) → ((front : List ℕ) (suffix : ℕ) → IsSeen front → octets ≢ fifteen front ++ suffix ∷ []) → PrintsOctets octets (prefix ++ encode_lower octets)
