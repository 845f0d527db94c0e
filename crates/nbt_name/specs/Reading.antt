-- Names that stand in octets, and faults that stand in a name's place: RFC 1002 section 4.1.
use Rattle.std.specs.Prelude.{◌≡◌, ◌≢◌, ℕ, suc, ◌+◌, ◌-◌, ◌*◌, ◌<◌, ◌≤◌, List, [], ◌∷◌, ◌++◌, length, slice_get, slice_index, slice_range, Option, Some, None, unwrap_or}
use Rattle.nbt_name.specs.declared.fault.NameFault.{NameFault}
use Rattle.nbt_name.specs.declared.fault.NameFaultKind.TheVariants.{Short, BadLabel, BadHalf, BadPointer, Long}
use Rattle.nbt_name.specs.declared.form.Form.{Form}
use Rattle.nbt_name.specs.declared.form.Form.TheVariants.{Plain, Compressed}
use Rattle.nbt_name.specs.Wire.{NameValue, IsName, wire}

-- A stop on a reader's way: the place, the labels passed so far, each after its length octet, and, once a
-- pointer was followed, the place after the first one.
pub record Spot : Type 0 where
  pub place : ℕ
  pub passed : List ℕ
  pub resume : Option ℕ

abbrev pub start : ℕ → Spot
start place = record { place = place; passed = []; resume = None }

-- what stands where a length octet is due
abbrev pub Finds : List ℕ → Spot → ℕ → Type 0
Finds octets spot octet = slice_get octets spot.place ≡ Some octet

-- no label was passed yet
abbrev pub IsFirst : Spot → Type 0
IsFirst spot = spot.passed ≡ []

abbrev pub IsLater : Spot → Type 0
IsLater spot = spot.passed ≢ []

-- n letters of half-ASCII, `A` to `P`
abbrev pub IsLetter : ℕ → Type 0
IsLetter octet = (0x41 ≤ octet) × (octet ≤ 0x50)

abbrev pub LettersAt : List ℕ → ℕ → ℕ → Type 0
LettersAt octets place n = (k : ℕ) → k < n → IsLetter (slice_index octets (place + k))

-- a pointer's low 14 bits
abbrev pub target : ℕ → ℕ → ℕ
target high low = (high - 0xC0) * 256 + low

-- after a label of n octets
abbrev pub past : List ℕ → Spot → ℕ → Spot
past octets from n = record {
  place = from.place + 1 + n;
  passed = from.passed ++ n ∷ slice_range octets (from.place + 1) (from.place + 1 + n);
  resume = from.resume;
}

-- at a pointer's target
abbrev pub led : Spot → ℕ → Spot
led from place = record { place = place; passed = from.passed; resume = Some (unwrap_or from.resume (from.place + 2)) }

-- One step: the first label is of 32 letters, a later one has 1 to 63 octets and leaves room for the closing zero
-- in 255 octets, and a pointer leads to a smaller place. A plain name has no pointer.
pub data Step (form : Form) (octets : List ℕ) (from : Spot) : Spot → Type 0 where
  letters_pass : IsFirst from → Finds octets from 0x20 → from.place + 33 ≤ length octets
      → LettersAt octets (from.place + 1) 32 → Step form octets from (past octets from 32)
  label_passes : (n : ℕ) → IsLater from → Finds octets from n → 1 ≤ n → n ≤ 63
      → length from.passed + 1 + n + 1 ≤ 255 → from.place + 1 + n ≤ length octets
      → Step form octets from (past octets from n)
  pointer_leads : (high low : ℕ) → form ≡ Compressed → Finds octets from high → 0xC0 ≤ high
      → slice_get octets (from.place + 1) ≡ Some low → target high low < from.place
      → Step form octets from (led from (target high low))

-- finitely many steps
pub data Path (form : Form) (octets : List ℕ) : Spot → Spot → Type 0 where
  here : (s : Spot) → Path form octets s s
  onward : (s t u : Spot) → Step form octets s t → Path form octets t u → Path form octets s u

-- how many they are: labels passed and pointers followed
unfoldable pub steps_on : {form : Form} {octets : List ℕ} {s t : Spot} → Path form octets s t → ℕ
steps_on (here s) = 0
steps_on (onward s t u step others) = suc (steps_on others)

-- A name stands at a place, and `next` is the place after it: a path leads to the closing zero, the labels passed
-- spell the name, and `next` is the place after the first pointer, or after the zero where there is none.
pub record Closes (octets : List ℕ) (spot : Spot) (name : NameValue) (next : ℕ) : Type 0 where
  pub later : IsLater spot
  pub zero : Finds octets spot 0
  pub spells : spot.passed ++ 0 ∷ [] ≡ wire name
  pub is_name : IsName name
  pub next_is : next ≡ unwrap_or spot.resume (spot.place + 1)

pub record Stands (form : Form) (octets : List ℕ) (place : ℕ) (name : NameValue) (next : ℕ) : Type 0 where
  pub spot : Spot
  pub path : Path form octets (start place) spot
  pub closes : Closes octets spot name next

abbrev pub NameAt : List ℕ → ℕ → NameValue → ℕ → Type 0
NameAt octets place name next = Stands Compressed octets place name next

abbrev pub PlainNameAt : List ℕ → ℕ → NameValue → ℕ → Type 0
PlainNameAt octets place name next = Stands Plain octets place name next

-- Fewer than 32 letters stand there: another octet does before them, or the octets end.
pub data LetterFault (octets : List ℕ) (place : ℕ) : NameFault → Type 0 where
  other_octet : (k : ℕ) → k < 32 → LettersAt octets place k → place + k < length octets
      → ¬ IsLetter (slice_index octets (place + k)) → LetterFault octets place (record { kind = BadHalf; place = place + k })
  octets_end : (k : ℕ) → k < 32 → LettersAt octets place k → place + k ≡ length octets
      → LetterFault octets place (record { kind = Short; place = length octets })

-- What allows no step and closes no name, and the fault that it is. `Long` comes before the label's octets are
-- looked at, and a bad letter before the end of the octets.
pub data Stuck (form : Form) (octets : List ℕ) (at : Spot) : NameFault → Type 0 where
  missing : slice_get octets at.place ≡ None → Stuck form octets at (record { kind = Short; place = length octets })
  first_label_bad : (n : ℕ) → IsFirst at → Finds octets at n → n ≢ 0x20 → n < 0xC0
      → Stuck form octets at (record { kind = BadLabel; place = at.place })
  letters_bad : (fault : NameFault) → IsFirst at → Finds octets at 0x20 → LetterFault octets (at.place + 1) fault
      → Stuck form octets at fault
  label_bad : (n : ℕ) → IsLater at → Finds octets at n → 0x40 ≤ n → n < 0xC0
      → Stuck form octets at (record { kind = BadLabel; place = at.place })
  label_long : (n : ℕ) → IsLater at → Finds octets at n → 1 ≤ n → n ≤ 63 → 255 < length at.passed + 1 + n + 1
      → Stuck form octets at (record { kind = Long; place = at.place })
  label_cut : (n : ℕ) → IsLater at → Finds octets at n → 1 ≤ n → n ≤ 63 → length at.passed + 1 + n + 1 ≤ 255
      → length octets < at.place + 1 + n → Stuck form octets at (record { kind = Short; place = length octets })
  pointer_plain : (high : ℕ) → form ≡ Plain → Finds octets at high → 0xC0 ≤ high
      → Stuck form octets at (record { kind = BadPointer; place = at.place })
  pointer_cut : (high : ℕ) → form ≡ Compressed → Finds octets at high → 0xC0 ≤ high
      → slice_get octets (at.place + 1) ≡ None → Stuck form octets at (record { kind = Short; place = length octets })
  pointer_onward : (high low : ℕ) → form ≡ Compressed → Finds octets at high → 0xC0 ≤ high
      → slice_get octets (at.place + 1) ≡ Some low → at.place ≤ target high low
      → Stuck form octets at (record { kind = BadPointer; place = at.place })

-- A fault stands at a place: a path leads to where the reader is stuck.
pub record Fails (form : Form) (octets : List ℕ) (place : ℕ) (fault : NameFault) : Type 0 where
  pub spot : Spot
  pub path : Path form octets (start place) spot
  pub stuck : Stuck form octets spot fault

abbrev pub FaultAt : List ℕ → ℕ → NameFault → Type 0
FaultAt octets place fault = Fails Compressed octets place fault

abbrev pub PlainFaultAt : List ℕ → ℕ → NameFault → Type 0
PlainFaultAt octets place fault = Fails Plain octets place fault
