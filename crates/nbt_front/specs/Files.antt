-- The file of fixed names: a line for each name and address, as in the list of leases (our profile).
use Rattle.std.specs.Prelude.{◌≡◌, ◌≢◌, ℕ, ◌+◌, ◌<◌, ◌≤◌, ◌⊎◌, List, [], ◌∷◌, ◌++◌, length, Option, Some, None, Contains, if◌then◌else◌}
use Rattle.std.specs.Str.Lines.{strip_carriage_return}
use Rattle.nbt_name.specs.Wire.{NameValue, IsStar, same_name}
use Rattle.nbt_name.specs.declared.addr.Kind.{Kind}
use Rattle.nbt_name.specs.declared.addr.Kind.TheVariants.{Unique, Group}
use Rattle.nbt_show.specs.Holders.{kind_word}
use Rattle.nbt_text.specs.Lines.{lines, fields, HasNoField}
use Rattle.nbt_text.specs.ScopedNames.{SpellsScopedName, MisspellsScopedName}
use Rattle.nbt_text.specs.declared.casing.Case.TheVariants.{Folded}
use Rattle.nbt_text.specs.declared.fault.Fault.{Fault}
use Rattle.nbt_front.specs.FixedNames.{FixedNames, FixedValue, fixed_of}
use Rattle.nbt_front.specs.Networks.{SpellsIp}
use Rattle.nbt_front.specs.Numbers.{addrs_most, names_most}
use Rattle.nbt_front.specs.declared.line.FixedLine.{FixedLine}
use Rattle.nbt_front.specs.declared.fault.LineFault.{LineFault}
use Rattle.nbt_front.specs.declared.fault.LineFault.TheVariants as f
use Rattle.nbt_front.specs.declared.fault.Refused.{Refused}
use Rattle.nbt_front.specs.declared.fault.Refused.TheVariants as refused
use Rattle.nbt_front.specs.declared.fault.FileFault.{FileFault}
use Rattle.nbt_front.specs.declared.fault.FileFault.TheVariants.{Line, Memory}

-- ---- the words of a line, as in FILER#20 unique 192.0.2.7

-- an address of one machine: not of 0.0.0.0/8 (RFC 1122 section 3.2.1.3), no multicast address (RFC 1112 section 4), and not
-- 255.255.255.255 (RFC 919 section 7)
abbrev pub IsOfOne : (ip : ℕ) → Type 0
IsOfOne ip = (0x01000000 ≤ ip) × (((ip < 0xE0000000) ⊎ (0xF0000000 ≤ ip)) × (ip ≢ 0xFFFFFFFF))

-- the name as people write it, small letters as capitals
abbrev pub SpellsFixedName : List ℕ → NameValue → Type 0
SpellsFixedName word name = SpellsScopedName Folded word [] name × (¬ IsStar name)

abbrev pub SpellsKind : List ℕ → Kind → Type 0
SpellsKind word kind = word ≡ kind_word kind

abbrev pub SpellsAddr : List ℕ → (addr : ℕ) → Type 0
SpellsAddr word addr = SpellsIp word addr × IsOfOne addr

-- three words: a name, its kind and an address
pub data SpellsLine : (words : List (List ℕ)) → FixedLine → Type 0 where
  spells : (name kind addr : List ℕ) (line : FixedLine) → SpellsFixedName name line.name → SpellsKind kind line.kind → SpellsAddr addr line.addr
      → SpellsLine (name ∷ kind ∷ addr ∷ []) line

-- The first thing that is wrong with the words of a line.
pub data Misspells : (words : List (List ℕ)) → LineFault → Type 0 where
  not_three : (words : List (List ℕ)) → length words ≢ 3 → Misspells words f.Words
  no_name : (name kind addr : List ℕ) (fault : Fault) → MisspellsScopedName Folded name [] fault → Misspells (name ∷ kind ∷ addr ∷ []) (f.Name fault)
  star : (name kind addr : List ℕ) (n : NameValue) → SpellsScopedName Folded name [] n → IsStar n → Misspells (name ∷ kind ∷ addr ∷ []) f.Star
  no_kind : (name kind addr : List ℕ) (n : NameValue) → SpellsFixedName name n → ((k : Kind) → ¬ SpellsKind kind k) → Misspells (name ∷ kind ∷ addr ∷ []) f.Kind
  no_addr : (name kind addr : List ℕ) (n : NameValue) (k : Kind) → SpellsFixedName name n → SpellsKind kind k → ((ip : ℕ) → ¬ SpellsIp addr ip)
      → Misspells (name ∷ kind ∷ addr ∷ []) f.Address
  not_of_one : (name kind addr : List ℕ) (n : NameValue) (k : Kind) (ip : ℕ) → SpellsFixedName name n → SpellsKind kind k → SpellsIp addr ip → ¬ IsOfOne ip
      → Misspells (name ∷ kind ∷ addr ∷ []) f.NotOne

-- ---- what a line adds

-- The first line of a name, and a further address of a group.
pub data Joins : Option FixedValue → FixedLine → FixedValue → Type 0 where
  first : (line : FixedLine) → Joins None line (record { kind = line.kind; addrs = line.addr ∷ [] })
  further : (fixed : FixedValue) (line : FixedLine) → fixed.kind ≡ Group → line.kind ≡ Group → ¬ Contains fixed.addrs line.addr → length fixed.addrs < addrs_most
      → Joins (Some fixed) line (record fixed { addrs = fixed.addrs ++ line.addr ∷ [] })

-- A unique name has one address, a name has one kind, a group has each address once.
pub data IsBarred (count : ℕ) : Option FixedValue → FixedLine → LineFault → Type 0 where
  full : (line : FixedLine) → names_most ≤ count → IsBarred count None line f.Full
  other_kind : (fixed : FixedValue) (line : FixedLine) → fixed.kind ≢ line.kind → IsBarred count (Some fixed) line f.Kinds
  unique_twice : (fixed : FixedValue) (line : FixedLine) → fixed.kind ≡ Unique → line.kind ≡ Unique → IsBarred count (Some fixed) line f.Twice
  address_twice : (fixed : FixedValue) (line : FixedLine) → fixed.kind ≡ Group → line.kind ≡ Group → Contains fixed.addrs line.addr → IsBarred count (Some fixed) line f.Twice
  many : (fixed : FixedValue) (line : FixedLine) → fixed.kind ≡ Group → line.kind ≡ Group → ¬ Contains fixed.addrs line.addr → addrs_most ≤ length fixed.addrs
      → IsBarred count (Some fixed) line f.Many

-- The name has this afterwards; all others are as they were.
pub record Adds (old : FixedNames) (line : FixedLine) (new : FixedNames) : Type 0 where
  pub fixed : FixedValue
  pub joins : Joins (fixed_of old line.name) line fixed
  pub room : fixed_of old line.name ≡ None → length old < names_most
  pub names_are : (name : NameValue) → fixed_of new name ≡ (if same_name line.name name then Some fixed else fixed_of old name)

-- what a line says: a carriage return before its line feed is a part of what ends it
abbrev pub said : (text : List ℕ) → List ℕ
said text = strip_carriage_return text

-- A line adds what its words say, between spaces and tabs; a remark, and a line of these alone, adds nothing.
pub data Takes (old : FixedNames) (text : List ℕ) : FixedNames → Type 0 where
  passed_over : HasNoField (said text) → Takes old text old
  added : (line : FixedLine) (new : FixedNames) → ¬ HasNoField (said text) → SpellsLine (fields (said text)) line → Adds old line new → Takes old text new

pub data LineFails (old : FixedNames) (text : List ℕ) : LineFault → Type 0 where
  misspelled : (fault : LineFault) → ¬ HasNoField (said text) → Misspells (fields (said text)) fault → LineFails old text fault
  barred : (line : FixedLine) (fault : LineFault) → ¬ HasNoField (said text) → SpellsLine (fields (said text)) line → IsBarred (length old) (fixed_of old line.name) line fault
      → LineFails old text fault

-- this is what a line isn't taken for; memory may be out at any step
abbrev pub IsRefusedBy : (LineFault → Type 0) → Refused → Type 0
IsRefusedBy FailsBy (refused.Line fault) = FailsBy fault
IsRefusedBy FailsBy refused.Memory = Unit {0}

-- ---- the whole file

-- the lines in their order
pub data Reads : (old : FixedNames) → (texts : List (List ℕ)) → (new : FixedNames) → Type 0 where
  no_line : (names : FixedNames) → Reads names [] names
  one_line : (old mid new : FixedNames) (text : List ℕ) (texts : List (List ℕ)) → Takes old text mid → Reads mid texts new → Reads old (text ∷ texts) new

-- the first line that can't be taken, counted from 1
pub data Fails : (old : FixedNames) → (texts : List (List ℕ)) → (number : ℕ) → LineFault → Type 0 where
  at_this : (old : FixedNames) (text : List ℕ) (texts : List (List ℕ)) (fault : LineFault) → LineFails old text fault → Fails old (text ∷ texts) 1 fault
  behind : (old mid : FixedNames) (text : List ℕ) (texts : List (List ℕ)) (number : ℕ) (fault : LineFault) → Takes old text mid → Fails mid texts number fault
      → Fails old (text ∷ texts) (number + 1) fault

abbrev pub IsFile : (text : List ℕ) → FixedNames → Type 0
IsFile text names = Reads [] (lines text) names

-- Its first wrong line is reported; memory may be out at any step.
abbrev pub FileFails : (text : List ℕ) → FileFault → Type 0
FileFails text (Line number fault) = Fails [] (lines text) number fault
FileFails text Memory = Unit {0}
