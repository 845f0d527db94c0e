-- The lines of an input, and the words of a line (our profile).
use Rattle.std.specs.Prelude.{◌≡◌, ◌≢◌, ℕ, ◌<◌, ◌==◌, ◌⊎◌, ◌||◌, not, List, [], ◌∷◌, ◌++◌, Ok, Some, filter, length, slice_get, slice_index, codes}
use Rattle.std.specs.Fmt.{decimal}
use Rattle.std.specs.List.{slice_split}
use Rattle.hex.specs.Hex.{decode_of}

-- what ends a line, as an octet and as a text
abbrev pub line_feed : ℕ
line_feed = 10

abbrev pub newline : List ℕ
newline = line_feed ∷ []

-- a text with the end of its line
abbrev pub one_line : List ℕ → List ℕ
one_line text = text ++ newline

-- what stands between line feeds
abbrev pub lines : List ℕ → List (List ℕ)
lines input = slice_split (λ octet. octet == line_feed) input

-- the words of a line, between spaces
abbrev pub words : List ℕ → List (List ℕ)
words text = filter (λ word. not (length word == 0)) (slice_split (λ octet. octet == 32) text)

-- spaces alone, or a remark
abbrev pub IsPassedOver : List ℕ → Type 0
IsPassedOver text = (slice_get text 0 ≡ Some 35) ⊎ (words text ≡ [])

-- the fields of a line, between spaces and tabs
abbrev pub fields : List ℕ → List (List ℕ)
fields text = filter (λ field. not (length field == 0)) (slice_split (λ octet. (octet == 32) || (octet == 9)) text)

-- spaces and tabs alone, or a remark
abbrev pub HasNoField : List ℕ → Type 0
HasNoField text = (slice_get text 0 ≡ Some 35) ⊎ (fields text ≡ [])

-- HEX: the octets' digits, or `-` for no octets
pub data SpellsOctets : List ℕ → List ℕ → Type 0 where
  no_octets : SpellsOctets (codes "-") []
  in_digits : (digits octets : List ℕ) → decode_of digits ≡ Ok octets → SpellsOctets digits octets

-- what is printed of a line that has something to be said of it
abbrev pub verdict_line : ℕ → List ℕ → List ℕ
verdict_line number word = one_line (codes "line " ++ decimal number ++ codes ": " ++ word)

-- the mark isn't among the octets
abbrev pub HasNo : ℕ → List ℕ → Type 0
HasNo mark octets = (k : ℕ) → k < length octets → slice_index octets k ≢ mark
