-- A name as C holds it; what the calls answer that make one, and that write a form of one: its wire form, its word, or the text of its scope.
use Rattle.std.specs.Prelude.{ℕ, ◌-◌, ◌≤◌, List, ◌++◌, length, take, replicate, ◌≡◌, ◌≢◌, Bool, true, false, ◌<◌, ◌∷◌, slice_index, drop}
use Rattle.nbt_name.specs.Scope.{IsScope}
use Rattle.nbt_name.specs.Wire.{NameValue, name_of, wire}
use Rattle.nbt_name.specs.declared.fault.NameRefusal.TheVariants.{Star, ScopeLong, BadLabel}
use Rattle.nbt_name.specs.Numbers.{refusal_number}
use Rattle.nbt_text.specs.declared.casing.Case.{Case}
use Rattle.nbt_text.specs.declared.casing.Case.TheVariants.{Folded, Exact}
use Rattle.nbt_text.specs.declared.fault.Fault.{Fault}
use Rattle.nbt_text.specs.NameText.{PrintsLabels}
use Rattle.nbt_text.specs.SuffixedNames.{PrintsOctets}
use Rattle.nbt_text.specs.ScopedNames.{dotted}
use Rattle.nbt_text.specs.declared.fault.Fault.TheVariants as f
use Rattle.nbt_c.specs.declared.name.CName.{CName}
use Rattle.nbt_c.specs.Results.{no_name, no_room}

-- a scope at the front of 221 octets, and zeros
abbrev pub filled_scope : List ℕ → List ℕ
filled_scope scope = scope ++ replicate (221 - length scope) 0

-- as the library writes it
abbrev pub stored : NameValue → CName
stored name = record { octets = name.octets; scope_size = length name.scope; scope = filled_scope name.scope }

-- as the library reads it, whatever stands behind the scope
abbrev pub name_in : CName → NameValue
name_in held = name_of held.octets (take held.scope_size held.scope)

abbrev pub HoldsName : CName → Type 0
HoldsName held = (held.scope_size ≤ 221) × IsScope (take held.scope_size held.scope)

pub data Makes (octets scope : List ℕ) (before : CName) : ℕ → CName → Type 0 where
  made : slice_index octets 0 ≢ 0x2A → length scope ≤ 221 → IsScope scope → Makes octets scope before 0 (stored (name_of octets scope))
  star : slice_index octets 0 ≡ 0x2A → Makes octets scope before (refusal_number Star) before
  long : slice_index octets 0 ≢ 0x2A → 221 < length scope → Makes octets scope before (refusal_number ScopeLong) before
  bad : slice_index octets 0 ≢ 0x2A → length scope ≤ 221 → ¬ IsScope scope → Makes octets scope before (refusal_number BadLabel) before

pub data MakesAny (scope : List ℕ) (before : CName) : ℕ → CName → Type 0 where
  made : length scope ≤ 221 → IsScope scope → MakesAny scope before 0 (stored (name_of (0x2A ∷ replicate 15 0) scope))
  long : 221 < length scope → MakesAny scope before (refusal_number ScopeLong) before
  bad : length scope ≤ 221 → ¬ IsScope scope → MakesAny scope before (refusal_number BadLabel) before

-- ---- words

abbrev pub case_of : (exact : Bool) → Case
case_of true = Exact
case_of false = Folded

-- the number that a fault has
abbrev pub place_in : Fault → ℕ
place_in (f.Long count) = count
place_in (f.Character place) = place
place_in fault = 0

-- the wire form; the word, as FILER#20; and the scope's labels with dots between them
abbrev pub IsWire : NameValue → List ℕ → Type 0
IsWire name octets = octets ≡ wire name

abbrev pub IsWord : NameValue → List ℕ → Type 0
IsWord name word = PrintsOctets name.octets word

abbrev pub IsScopeText : NameValue → List ℕ → Type 0
IsScopeText name text = PrintsLabels name.scope (dotted text)

-- the form stands at the front of the caller's octets, the others staying, and it is counted
pub data Writes (IsForm : NameValue → List ℕ → Type 0) (held : CName) (room : List ℕ) (size : ℕ) : ℕ → List ℕ → ℕ → Type 0 where
  written : (form : List ℕ) → HoldsName held → IsForm (name_in held) form → length form ≤ length room
      → Writes IsForm held room size 0 (form ++ drop (length form) room) (length form)
  has_no_room : (form : List ℕ) → HoldsName held → IsForm (name_in held) form → length room < length form → Writes IsForm held room size no_room room size
  has_no_name : ¬ HoldsName held → Writes IsForm held room size no_name room size
