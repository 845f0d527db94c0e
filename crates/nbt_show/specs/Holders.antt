-- What is printed of a reply that says who holds a name (RFC 1002 sections 4.2.13 and 4.2.14; the words are our profile's).
use Rattle.std.specs.Prelude.{◌≡◌, ℕ, Bool, true, false, List, [], ◌++◌, codes}
use Rattle.std.specs.Fmt.{decimal}
use Rattle.nbt_name.specs.declared.addr.Kind.{Kind}
use Rattle.nbt_name.specs.declared.addr.Kind.TheVariants.{Unique, Group}
use Rattle.nbt_packet.specs.Message.{kind_in}
use Rattle.nbt_text.specs.Address.{entry_address}
use Rattle.nbt_text.specs.Lines.{newline}
use Rattle.nbt_show.specs.Rcodes.{rcode_words}

-- who may hold a name
abbrev pub kind_word : Kind → List ℕ
kind_word Unique = codes "unique"
kind_word Group = codes "group"

-- its line, as `192.0.2.7 unique`: of NB_FLAGS only G is looked at
abbrev pub entry_line : List ℕ → List ℕ
entry_line e = entry_address e ++ codes " " ++ kind_word (kind_in e) ++ newline

abbrev pub IsEntryLine : List ℕ → List ℕ → Type 0
IsEntryLine entry line = line ≡ entry_line entry

-- a line more where the name has more entries than the reply
abbrev pub cut_text : (cut : Bool) → List ℕ
cut_text true = codes "cut" ++ newline
cut_text false = []

-- as `not found: no such name (3)`
abbrev pub not_found_text : (rcode : ℕ) → List ℕ
not_found_text rcode = codes "not found: " ++ rcode_words rcode ++ codes " (" ++ decimal rcode ++ codes ")" ++ newline
