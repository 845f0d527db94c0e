-- What stands in the columns of a host's line (our profile).
use Rattle.std.specs.Prelude.{◌≡◌, ◌≢◌, ℕ, ◌-◌, List, [], ◌∷◌, ◌++◌, length, take, replicate, Option, Some, None, codes}
use Rattle.hex.specs.Hex.{encode_lower}
use Rattle.nbt_text.specs.NameText.{prefix}
use Rattle.nbt_text.specs.SuffixedNames.{IsSeen, fifteen}
use Rattle.nbt_text.specs.UnitIds.{unit_digits}

-- Sixteen octets without their suffix: the characters; all the octets in digits where they can't be written so.
pub data PrintsStem : (octets word : List ℕ) → Type 0 where
  in_capitals : (front : List ℕ) (suffix : ℕ) → IsSeen front → PrintsStem (fifteen front ++ suffix ∷ []) front
  in_hexadecimal : (octets : List ℕ) → ((front : List ℕ) (suffix : ℕ) → IsSeen front → octets ≢ fifteen front ++ suffix ∷ []) → PrintsStem octets (prefix ++ encode_lower octets)

-- a name of eighteen octets so, and `-` where there is none
abbrev pub PrintsName : Option (List ℕ) → (word : List ℕ) → Type 0
PrintsName None word = word ≡ codes "-"
PrintsName (Some name) word = PrintsStem (take 16 name) word

-- a file server or not
abbrev pub server_word : Option (List ℕ) → List ℕ
server_word None = codes "-"
server_word (Some name) = codes "server"

-- as `00:50:56:c0:00:08`
abbrev pub unit_word : Option (List ℕ) → List ℕ
unit_word None = codes "-"
unit_word (Some unit) = unit_digits unit

-- filled up to a width, and two spaces
abbrev pub column : (width : ℕ) → List ℕ → List ℕ
column width word = word ++ replicate (width - length word) 32 ++ codes "  "
