-- NetBIOS names as text (our profile): which name a text spells, and which text is printed of a name.
use Rattle.std.specs.Prelude.{◌≡◌, ◌≢◌, ℕ, ◌-◌, ◌<◌, ◌≤◌, ◌⊎◌, List, [], ◌∷◌, ◌++◌, length, slice_index, replicate, Ok, codes}
use Rattle.hex.specs.Hex.{decode_of, encode_lower}
use Rattle.nbt_name.specs.Wire.{NameValue}

-- what stands between two components, and what fills up the sixteen octets
abbrev pub dot : ℕ
dot = 0x2E

abbrev pub space : ℕ
space = 0x20

-- what a component in hexadecimal begins with
abbrev pub prefix : List ℕ
prefix = codes "hex:"

abbrev pub IsPrefixed : List ℕ → Type 0
IsPrefixed text = (digits : List ℕ) × (text ≡ prefix ++ digits)

abbrev pub IsPlain : ℕ → Type 0
IsPlain octet = (0x21 ≤ octet) × (octet ≤ 0x7E) × (octet ≢ dot)

-- Octets that can be printed as they are, and read back: there is one at least.
pub record StandsAsItIs (octets : List ℕ) : Type 0 where
  pub some : 0 < length octets
  pub plain : (k : ℕ) → k < length octets → IsPlain (slice_index octets k)
  pub unprefixed : ¬ (IsPrefixed octets)

-- ---- reading

-- A component spells octets: itself, or those of the digits after `hex:`.
pub data Component : List ℕ → List ℕ → Type 0 where
  as_it_is : (octets : List ℕ) → StandsAsItIs octets → Component octets octets
  in_digits : (digits octets : List ℕ) → decode_of digits ≡ Ok octets → Component (prefix ++ digits) octets

-- The first one spells sixteen: up to sixteen filled up with spaces, or those of 32 digits.
pub data Sixteen : List ℕ → List ℕ → Type 0 where
  filled_up : (octets : List ℕ) → StandsAsItIs octets → length octets ≤ 16
      → Sixteen octets (octets ++ replicate (16 - length octets) space)
  in_32_digits : (digits octets : List ℕ) → decode_of digits ≡ Ok octets → length octets ≡ 16
      → Sixteen (prefix ++ digits) octets

-- Each other one spells a label of the scope, and stands after a dot.
pub data Labels : List ℕ → List ℕ → Type 0 where
  no_label : Labels [] []
  label : (component octets rest scope : List ℕ) → Component component octets → 1 ≤ length octets
      → length octets ≤ 63 → Labels rest scope → Labels (dot ∷ component ++ rest) (length octets ∷ octets ++ scope)

pub record SpellsName (text : List ℕ) (name : NameValue) : Type 0 where
  pub first : List ℕ
  pub rest : List ℕ
  pub text_is : text ≡ first ++ rest
  pub sixteen : Sixteen first name.octets
  pub labels : Labels rest name.scope
  pub fits : length name.scope ≤ 221

-- ---- printing

-- `plain` as it is, or, where it can't be printed so, the digits of `whole`
abbrev pub PrintsComponent : List ℕ → List ℕ → List ℕ → Type 0
PrintsComponent plain whole text = (StandsAsItIs plain × (text ≡ plain))
    ⊎ ((¬ (StandsAsItIs plain)) × (text ≡ prefix ++ encode_lower whole))

-- the octets without the spaces at their end
pub record IsTrimmed (octets trimmed : List ℕ) : Type 0 where
  pub filled : octets ≡ trimmed ++ replicate (length octets - length trimmed) space
  pub ends : (front : List ℕ) → trimmed ≢ front ++ space ∷ []

pub data PrintsLabels : List ℕ → List ℕ → Type 0 where
  none_printed : PrintsLabels [] []
  label_printed : (octets scope component rest : List ℕ) → PrintsComponent octets octets component
      → PrintsLabels scope rest → PrintsLabels (length octets ∷ octets ++ scope) (dot ∷ component ++ rest)

pub record PrintsName (name : NameValue) (text : List ℕ) : Type 0 where
  pub trimmed : List ℕ
  pub first : List ℕ
  pub rest : List ℕ
  pub text_is : text ≡ first ++ rest
  pub is_trimmed : IsTrimmed name.octets trimmed
  pub sixteen : PrintsComponent trimmed name.octets first
  pub labels : PrintsLabels name.scope rest
