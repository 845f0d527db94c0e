-- A name with its scope, as people write it (our profile).
use Rattle.std.specs.Prelude.{◌≡◌, ◌≢◌, ℕ, ◌≤◌, List, [], ◌∷◌, ◌++◌, length, codes}
use Rattle.nbt_name.specs.Wire.{NameValue, name_of}
use Rattle.nbt_text.specs.Lines.{HasNo}
use Rattle.nbt_text.specs.NameText.{dot, IsPrefixed, SpellsName as TextSpellsName, PrintsLabels}
use Rattle.nbt_text.specs.declared.casing.Case.{Case}
use Rattle.nbt_text.specs.declared.casing.Case.TheVariants.{Exact}
use Rattle.nbt_text.specs.declared.fault.Fault.{Fault}
use Rattle.nbt_text.specs.declared.fault.Fault.TheVariants as f
use Rattle.nbt_text.specs.SuffixedNames.{cased, IsMark, IsCutAt, SpellsOctets, Misspells, PrintsOctets}

-- no scope, or a dot and its text
abbrev pub dotted : List ℕ → List ℕ
dotted [] = []
dotted (octet ∷ text) = dot ∷ octet ∷ text

-- A scope is spelled as it stands after some name, as `A`, and has at most 1,000 characters.
pub record SpellsScope (case : Case) (text scope : List ℕ) : Type 0 where
  pub octets : List ℕ
  pub few : length text ≤ 1000
  pub spells : TextSpellsName (codes "A" ++ dotted (cased case text)) (name_of octets scope)

-- The word spells the name's octets, and the text its scope.
pub record SpellsName (case : Case) (word text : List ℕ) (name : NameValue) : Type 0 where
  pub octets : SpellsOctets case word name.octets
  pub scope : SpellsScope case text name.scope

-- The word's fault comes before the scope's.
pub data MisspellsName (case : Case) (word text : List ℕ) : Fault → Type 0 where
  bad_word : (fault : Fault) → Misspells word fault → MisspellsName case word text fault
  bad_scope : (octets : List ℕ) → SpellsOctets case word octets → ((scope : List ℕ) → ¬ SpellsScope case text scope) → MisspellsName case word text f.Scope

-- ---- a scope behind the suffix, as in FILER#20.NETBIOS.COM

-- where the suffix of a word begins: at its first mark; a word that begins with `hex:` has it among its digits
pub data IsOpened (word : List ℕ) : (front tail : List ℕ) → Type 0 where
  at_mark : (front tail : List ℕ) → ¬ IsPrefixed word → IsCutAt IsMark word front tail → IsOpened word front tail
  in_digits : IsPrefixed word → IsOpened word [] word

-- A dot before the suffix is a character of the name, and the first one behind it begins a scope.
pub record HasNoScope (word : List ℕ) : Type 0 where
  pub front : List ℕ
  pub tail : List ℕ
  pub opened : IsOpened word front tail
  pub none : HasNo dot tail

pub record HasScope (word bare scope : List ℕ) : Type 0 where
  pub front : List ℕ
  pub suffix : List ℕ
  pub opened : IsOpened word front (suffix ++ dot ∷ scope)
  pub first : HasNo dot suffix
  pub bare_is : bare ≡ front ++ suffix

-- The scope behind a name is taken as it stands, also where the name's letters are folded, since it is printed so.
abbrev pub SpellsOwnScope : (text scope : List ℕ) → Type 0
SpellsOwnScope text scope = (text ≢ []) × SpellsScope Exact text scope

pub record SpellsBehind (case : Case) (bare text : List ℕ) (name : NameValue) : Type 0 where
  pub octets : SpellsOctets case bare name.octets
  pub scope : SpellsOwnScope text name.scope

pub data MisspellsBehind (case : Case) (bare text : List ℕ) : Fault → Type 0 where
  bad_bare : (fault : Fault) → Misspells bare fault → MisspellsBehind case bare text fault
  bad_own : (octets : List ℕ) → SpellsOctets case bare octets → ((scope : List ℕ) → ¬ SpellsOwnScope text scope) → MisspellsBehind case bare text f.Scope

-- The word spells a name, with the scope behind it, or else with the scope that the text spells.
pub data SpellsScopedName (case : Case) (word text : List ℕ) (name : NameValue) : Type 0 where
  apart : HasNoScope word → SpellsName case word text name → SpellsScopedName case word text name
  behind : (bare own : List ℕ) → HasScope word bare own → SpellsBehind case bare own name → SpellsScopedName case word text name

pub data MisspellsScopedName (case : Case) (word text : List ℕ) (fault : Fault) : Type 0 where
  bad_apart : HasNoScope word → MisspellsName case word text fault → MisspellsScopedName case word text fault
  bad_behind : (bare own : List ℕ) → HasScope word bare own → MisspellsBehind case bare own fault → MisspellsScopedName case word text fault

-- ---- printing

-- A name as FILER#20, and behind it the labels of its scope, each after a dot, as the bench's commands print them.
pub record PrintsWord (name : NameValue) (word : List ℕ) : Type 0 where
  pub front : List ℕ
  pub labels : List ℕ
  pub octets_are : PrintsOctets name.octets front
  pub labels_are : PrintsLabels name.scope labels
  pub word_is : word ≡ front ++ labels
