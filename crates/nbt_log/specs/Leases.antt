-- The list of live leases: what it is, and a line each (our profile).
use Rattle.std.specs.Prelude.{◌≡◌, ◌⊎◌, ℕ, ◌<◌, ◌≤◌, List, [], ◌++◌, codes}
use Rattle.nbt_lease.specs.declared.lease.Lease.{Lease}
use Rattle.nbt_lease.specs.Lease.{Rows}
use Rattle.nbt_name.specs.Wire.{NameValue}
use Rattle.nbt_show.specs.Holders.{kind_word}
use Rattle.nbt_text.specs.Address.{dotted}
use Rattle.nbt_text.specs.Lines.{newline}
use Rattle.nbt_text.specs.ScopedNames.{PrintsWord}
use Rattle.nbt_text.specs.Texts.{PrintsEach}
use Rattle.nbt_log.specs.declared.dates.Dates.{Dates}
use Rattle.nbt_log.specs.Dates.{second_at, IsTimeText}

-- of which kind a lease is, and which machine has it, as ` unique 192.0.2.7 `
abbrev pub machine : Lease → List ℕ
machine lease = codes " " ++ kind_word lease.kind ++ codes " " ++ dotted lease.addr ++ codes " "

-- The line of a lease: the name, whose it is, and when it ends.
pub record IsLeaseText (dates : Dates) (name : NameValue) (lease : Lease) (text : List ℕ) : Type 0 where
  pub word : List ℕ
  pub end : List ℕ
  pub word_is : PrintsWord name word
  pub end_is : IsTimeText (second_at dates lease.end) end
  pub text_is : text ≡ word ++ machine lease ++ end ++ newline

-- A row has a line while its lease lives, and no longer at its end.
pub data PrintsRow (dates : Dates) (now : ℕ) (row : NameValue × Lease) (text : List ℕ) : Type 0 where
  lives : now < row.1.end → IsLeaseText dates row.0 row.1 text → PrintsRow dates now row text
  is_over : row.1.end ≤ now → text ≡ [] → PrintsRow dates now row text

-- the first line, which says what a file is
abbrev pub list_head : List ℕ
list_head = codes "# live leases of nbt nbns" ++ newline

-- The list: the first line, and the rows in their order.
abbrev pub IsList : Dates → ℕ → Rows → List ℕ → Type 0
IsList dates now rows text = (lines : List ℕ) × PrintsEach (PrintsRow dates now) rows lines × (text ≡ list_head ++ lines)

-- A text with this first line may be put in place of a file that has no octet, and of one whose first octets are that line.
abbrev pub MayReplace : (head first : List ℕ) → Type 0
MayReplace head first = (first ≡ []) ⊎ (first ≡ head)
