-- What is written of a name that is taken (our profile).
use Rattle.std.specs.Prelude.{ℕ, List, ◌++◌, codes}
use Rattle.nbt_name.specs.declared.addr.Kind.{Kind}
use Rattle.nbt_front.specs.declared.line.FixedLine.{FixedLine}
use Rattle.nbt_show.specs.Holders.{kind_word}
use Rattle.nbt_text.specs.Address.{dotted}

-- a kind between a name and an address
abbrev pub between : Kind → List ℕ
between kind = codes " " ++ kind_word kind ++ codes " "

-- the name's word, its kind and its address, as in FILER#20 unique 192.0.2.7
abbrev pub entry_text : (word : List ℕ) → FixedLine → List ℕ
entry_text word entry = word ++ between entry.kind ++ dotted entry.addr
