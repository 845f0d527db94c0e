-- The line with which a host begins (our profile).
use Rattle.std.specs.Prelude.{ℕ, nat_eq, if◌then◌else◌, List, ◌++◌, codes}
use Rattle.std.specs.Fmt.{decimal}
use Rattle.nbt_name.specs.declared.addr.Addr.{Addr}
use Rattle.nbt_text.specs.Address.{address_text}
use Rattle.nbt_text.specs.Lines.{newline}

-- for how many names, and the end of the line
abbrev pub count_text : ℕ → List ℕ
count_text count = if nat_eq count 1 then codes " for 1 name" ++ newline else codes " for " ++ decimal count ++ codes " names" ++ newline

-- which host asks which server
abbrev pub begin_text : (at server : Addr) → (count : ℕ) → List ℕ
begin_text at server count = codes "host " ++ address_text at ++ codes " asks " ++ address_text server ++ count_text count
