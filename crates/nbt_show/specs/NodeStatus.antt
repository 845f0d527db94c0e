-- What is printed of a status reply: a node's names, and its unit id (RFC 1002 section 4.2.18; the words are our profile's).
use Rattle.std.specs.Prelude.{◌≡◌, ℕ, ◌/◌, ◌%◌, nat_eq, nat_lt, ◌||◌, if◌then◌else◌, List, [], ◌∷◌, ◌++◌, take, replicate, length, slice_index, codes}
use Rattle.std.specs.Str.{bytes_eq}
use Rattle.nbt_packet.specs.Message.{kind_in}
use Rattle.nbt_text.specs.SuffixedNames.{PrintsOctets}
use Rattle.nbt_text.specs.Suffixes.{words_of}
use Rattle.nbt_text.specs.Lines.{newline}
use Rattle.nbt_text.specs.UnitIds.{unit_digits}
use Rattle.nbt_show.specs.Holders.{kind_word}

-- ---- a name of eighteen octets: the sixteen, and NAME_FLAGS

-- a word where its bit is set
abbrev pub flag_word : (flags bit : ℕ) → List ℕ → List ℕ
flag_word flags bit word = if nat_eq (flags / bit % 2) 1 then word else []

-- DRG, CNF, ACT and PRM in the first octet of NAME_FLAGS
abbrev pub flag_words : (flags : ℕ) → List ℕ
flag_words flags = flag_word flags 0x10 (codes " deregistering") ++ flag_word flags 0x08 (codes " conflict") ++ flag_word flags 0x04 (codes " active") ++ flag_word flags 0x02 (codes " permanent")

-- what the suffix means, after two spaces, where it means something
abbrev pub meaning : List ℕ → List ℕ
meaning [] = []
meaning (letter ∷ letters) = codes "  " ++ letter ∷ letters

-- as `FILER#20 unique active  file server`
abbrev pub after_word : List ℕ → List ℕ
after_word name = codes " " ++ kind_word (kind_in (slice_index name 16 ∷ [])) ++ flag_words (slice_index name 16) ++ meaning (words_of (slice_index name 15) (kind_in (slice_index name 16 ∷ []))) ++ newline

abbrev pub IsNameLine : List ℕ → List ℕ → Type 0
IsNameLine name line = (word : List ℕ) × PrintsOctets (take 16 name) word × (line ≡ word ++ after_word name)

-- ---- the statistics after the names, of which the unit id is the first six octets

-- as `unit id 00:50:56:c0:00:08`
abbrev pub unit_line : List ℕ → List ℕ
unit_line unit = codes "unit id " ++ unit_digits unit ++ newline

-- its line, where it is there and isn't zero
abbrev pub unit_text : (statistics : List ℕ) → List ℕ
unit_text statistics = if nat_lt (length statistics) 6 || bytes_eq (take 6 statistics) (replicate 6 0) then [] else unit_line (take 6 statistics)
