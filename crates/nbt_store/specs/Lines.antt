-- The file of a store: a line for its version, one for whose it is, and one for each change (our profile).
use Rattle.std.specs.Prelude.{◌≡◌, ◌≢◌, ℕ, ◌+◌, ◌-◌, ◌^◌, ◌<◌, ◌≤◌, ◌==◌, min, if◌then◌else◌, List, [], ◌∷◌, ◌++◌, length, ⊤}
use Rattle.std.specs.List.{AllByRecursion}
use Rattle.nbt_text.specs.Lines.{line_feed, newline, words as words_of}
use Rattle.nbt_text.specs.Number.{SpellsNumber}
use Rattle.nbt_store.specs.declared.change.Change.{Change}
use Rattle.nbt_store.specs.declared.fault.Fault.{Fault}
use Rattle.nbt_store.specs.declared.fault.Fault.TheVariants.{Empty, Version, Damaged}
use Rattle.nbt_store.specs.declared.header.Head.{Head}
use Rattle.nbt_store.specs.declared.header.Header.{Header}
use Rattle.nbt_store.specs.Boot.{SpellsBoot}
use Rattle.nbt_lease.specs.Lease.{Leases}
use Rattle.nbt_store.specs.declared.form.Form.{Form}
use Rattle.nbt_store.specs.declared.form.Form.TheVariants.{Two, Three}
use Rattle.nbt_store.specs.Changes.{Stands, after, after_all, no_leases}
use Rattle.nbt_store.specs.Checksum.{checksum, sealed}
use Rattle.nbt_store.specs.Forms.{version}
use Rattle.nbt_store.specs.Words.{NoMore, Then}
use Rattle.nbt_store.specs.Records.{IsRecord}

-- ---- lines

-- an octet in front of the first line
abbrev pub in_front : ℕ → List (List ℕ) → List (List ℕ)
in_front octet [] = []
in_front octet (line ∷ lines) = (octet ∷ line) ∷ lines

-- The lines that have their end, a line feed. What stands behind the last line feed is none of them: a crash tore it.
abbrev pub whole_lines : List ℕ → List (List ℕ)
whole_lines [] = []
whole_lines (octet ∷ octets) = if octet == line_feed then [] ∷ whole_lines octets else in_front octet (whole_lines octets)

-- octets of a line: a space or above
abbrev pub IsLine : List ℕ → Type 0
IsLine octets = AllByRecursion (λ octet. 0x20 ≤ octet) octets

-- the last line has its end
abbrev pub IsClosed : List ℕ → Type 0
IsClosed octets = (front : List ℕ) × (octets ≡ front ++ newline)

-- ---- what the lines say

-- The words of the second line: LIFE LONGEST ROWS BOOT AHEAD START LAST DAY LEASES.
pub record SpellsHead (words : List (List ℕ)) (head : Head) : Type 0 where
  pub values : ℕ × (ℕ × (ℕ × (List ℕ × (ℕ × (ℕ × (ℕ × (ℕ × (ℕ × Unit {0}))))))))
  pub spelled : Then SpellsNumber (Then SpellsNumber (Then SpellsNumber (Then SpellsBoot (Then SpellsNumber (Then SpellsNumber (Then SpellsNumber (Then SpellsNumber (Then SpellsNumber NoMore)))))))) words values
  pub head_is : head ≡ record {
    header = record {
      life = values.0;
      longest = values.1.0;
      rows = values.1.1.0;
      boot = values.1.1.1.0;
      ahead = values.1.1.1.1.0;
      start = values.1.1.1.1.1.0;
      last = values.1.1.1.1.1.1.0;
      day = values.1.1.1.1.1.1.1.0;
    };
    leases = values.1.1.1.1.1.1.1.1.0;
  }

-- The second line: its words, closed by their checksum.
pub record IsHead (line : List ℕ) (head : Head) (next : ℕ) : Type 0 where
  pub body : List ℕ
  pub line_is : line ≡ sealed 0 body
  pub words_say : SpellsHead (words_of body) head
  pub next_is : next ≡ checksum 0 body

-- A line for each change, in order: the first is behind one with this checksum, and the last has that one.
abbrev pub AreRecords : Form → (sum : ℕ) → List (List ℕ) → List Change → (last : ℕ) → Type 0
AreRecords form sum [] [] last = last ≡ sum
AreRecords form sum (line ∷ lines) (c ∷ cs) last = (next : ℕ) × IsRecord form sum line c next × AreRecords form next lines cs last
AreRecords form sum [] (c ∷ cs) last = ⊥
AreRecords form sum (line ∷ lines) [] last = ⊥

-- In the newer form each change that moves or releases a lease has one, by the changes before it.
abbrev pub StandsIn : Form → Change → Leases → Type 0
StandsIn Two c leases = ⊤
StandsIn Three c leases = Stands c leases

abbrev pub AllStand : Form → List Change → Leases → Type 0
AllStand form [] leases = ⊤
AllStand form (c ∷ cs) leases = StandsIn form c leases × AllStand form cs (after c leases)

-- The octets have the line of the version, that of this head, and one for each of these changes, of which the last has this checksum,
-- whatever stands behind the last line feed.
pub record HaveLines (octets : List ℕ) (form : Form) (head : Head) (cs : List Change) (last : ℕ) : Type 0 where
  pub line : List ℕ
  pub sum : ℕ
  pub records : List (List ℕ)
  pub lines_are : whole_lines octets ≡ version form ∷ line ∷ records
  pub head_is : IsHead line head sum
  pub records_are : AreRecords form sum records cs last

-- The octets are a file of these changes. It has a line at least for each lease with which it was written: it took its place as a whole,
-- so a crash can cut off what was appended since, and nothing else.
pub record IsFile (octets : List ℕ) (form : Form) (h : Header) (cs : List Change) (last : ℕ) : Type 0 where
  pub leases : ℕ
  pub lines : HaveLines octets form (record { header = h; leases = leases }) cs last
  pub enough : leases ≤ length cs

-- the number of the line behind the first two and these, counted from 1; of 64 bits
abbrev pub line_number : (before : ℕ) → ℕ
line_number before = min (before + 3) (2 ^ 64 - 1)

-- The changes of lines in front of another one, each of which has its lease.
pub record AreBefore (form : Form) (sum : ℕ) (lines : List (List ℕ)) (cs : List Change) (last : ℕ) : Type 0 where
  pub records_are : AreRecords form sum lines cs last
  pub stand : AllStand form cs no_leases

-- no change behind one with this checksum has this line
abbrev pub IsNone : Form → (sum : ℕ) → (line : List ℕ) → Type 0
IsNone form sum line = (c : Change) (next : ℕ) → ¬ IsRecord form sum line c next

-- The first fault of octets that are no file: no line; another version; or the first line that isn't what it should be, or that is
-- missing, counted from 1.
pub data HasFault (octets : List ℕ) : Fault → Type 0 where
  is_empty : whole_lines octets ≡ [] → HasFault octets Empty
  other_version : (line : List ℕ) (lines : List (List ℕ)) → whole_lines octets ≡ line ∷ lines → ((form : Form) → line ≢ version form) → HasFault octets Version
  no_head : (form : Form) → whole_lines octets ≡ version form ∷ [] → HasFault octets (Damaged 2)
  bad_head : (form : Form) (line : List ℕ) (lines : List (List ℕ)) → whole_lines octets ≡ version form ∷ line ∷ lines → ((head : Head) (sum : ℕ) → ¬ IsHead line head sum) → HasFault octets (Damaged 2)
  bad_record : (form : Form) (second : List ℕ) (head : Head) (sum : ℕ) (before lines : List (List ℕ)) (cs : List Change) (last : ℕ) (line : List ℕ) → whole_lines octets ≡ version form ∷ second ∷ (before ++ line ∷ lines) → IsHead second head sum
      → AreBefore form sum before cs last → IsNone form last line → HasFault octets (Damaged (line_number (length before)))
  no_lease : (form : Form) (second : List ℕ) (head : Head) (sum : ℕ) (before lines : List (List ℕ)) (cs : List Change) (last : ℕ) (line : List ℕ) (c : Change) (next : ℕ) → whole_lines octets ≡ version form ∷ second ∷ (before ++ line ∷ lines)
      → IsHead second head sum → AreBefore form sum before cs last → IsRecord form last line c next → ¬ StandsIn form c (after_all cs no_leases) → HasFault octets (Damaged (line_number (length before)))
  cut_off : (form : Form) (head : Head) (cs : List Change) (last : ℕ) → HaveLines octets form head cs last → AllStand form cs no_leases → length cs < head.leases → HasFault octets (Damaged (line_number (length cs)))
