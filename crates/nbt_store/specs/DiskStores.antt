-- A store over a disk: what each of its calls asks of the disk (our profile).
use Rattle.std.specs.Prelude.{◌≡◌, ◌⊎◌, ◌≤◌, ◌+◌, ◌-◌, ◌/◌, ◌^◌, ◌&&◌, ℕ, min, nat_lt, if◌then◌else◌, Bool, true, false, is_some, Option, Some, None, List, [], ◌∷◌, ◌++◌, length, Result, Ok, Err}
use Rattle.nbt_lease.specs.Lease.{Rows}
use Rattle.nbt_port.specs.PortCalls.{Chain}
use Rattle.nbt_text.specs.Lines.{one_line}
use Rattle.nbt_store.specs.declared.change.Change.{Change}
use Rattle.nbt_store.specs.declared.disk_store.DiskStore.{DiskStore}
use Rattle.nbt_store.specs.declared.draft.Draft.{Draft as NewFile}
use Rattle.nbt_store.specs.declared.header.Header.{Header}
use Rattle.nbt_store.specs.declared.form.Form.TheVariants.{Three}
use Rattle.nbt_store.specs.Calls.{StoreCall, appended, append_failed, synced, sync_failed, renewal_began, renewal_went_on, renewed, renewal_failed, has_failed}
use Rattle.nbt_store.specs.Changes.{begun_all}
use Rattle.nbt_store.specs.DiskCalls.{DiskCall, created, create_failed, added_beside, add_beside_failed, installed, install_failed, added, add_failed, flushed, flush_failed}
use Rattle.nbt_store.specs.Lines.{HaveLines, IsClosed, IsFile, IsLine}
use Rattle.nbt_store.specs.Records.{IsRecord}

-- ---- what a call asks of the disk

-- a whole file of these leases, which its second line counts, and the checksum of its last line
pub record IsNewFile (text : List ℕ) (header : Header) (rows : Rows) (last : ℕ) : Type 0 where
  pub file : IsFile text Three header (begun_all header.last rows) last
  pub counted : HaveLines text Three (record { header = header; leases = length rows }) (begun_all header.last rows) last
  pub closed : IsClosed text

-- a change's line behind one with this checksum, with its line feed
pub record IsNewLine (octets : List ℕ) (sum : ℕ) (change : Change) (next : ℕ) : Type 0 where
  pub line : List ℕ
  pub says : IsRecord Three sum line change next
  pub is_line : IsLine line
  pub octets_are : octets ≡ one_line line

-- the lines of these changes, one behind the other: the first is behind one with this checksum, and the last has that one
pub data AreNewLines (sum : ℕ) : (octets : List ℕ) → List Change → (last : ℕ) → Type 0 where
  no_lines : AreNewLines sum [] [] sum
  one_more_line : (octets line : List ℕ) (changes : List Change) (change : Change) (last next : ℕ) → AreNewLines sum octets changes last → IsNewLine line last change next → AreNewLines sum (octets ++ line) (changes ++ change ∷ []) next

-- the first two lines of a file that is to have so many leases, and the checksum of the second
pub record IsNewFront (front : List ℕ) (header : Header) (leases last : ℕ) : Type 0 where
  pub lines : HaveLines front Three (record { header = header; leases = leases }) [] last
  pub closed : IsClosed front

-- so many lines are written in a new file at once, at most
abbrev pub part_most : ℕ
part_most = 256

-- A new file that is being written: with how many leases it began, how many lines it is to have by now, the changes whose lines aren't
-- written yet, and the checksum of the last line that is.
pub record Beside : Type 0 where
  pub leases : ℕ
  pub lines : ℕ
  pub left : List Change
  pub sum : ℕ

-- where a store goes on: the checksum of the last line of its file, and the new file, if there is one
pub record Tail : Type 0 where
  pub sum : ℕ
  pub beside : Option Beside

-- behind the last line of a file without a new one
abbrev pub tail_at : (sum : ℕ) → Tail
tail_at sum = record { sum = sum; beside = None }

-- a change's line is to be written in the new file too; lines are counted in 64 bits
abbrev pub with_line_of : Change → Option Beside → Option Beside
with_line_of change None = None
with_line_of change (Some new) = Some (record { leases = new.leases; lines = min (new.lines + 1) (2 ^ 64 - 1); left = new.left ++ change ∷ []; sum = new.sum })

-- A new file is gone on with: the lines of the next changes are written, so many at most; or nothing is asked, where there is none.
pub data GoesOn (old : Tail) : List DiskCall → Tail → Type 0 where
  asks_nothing : old.beside ≡ None → GoesOn old [] old
  adds_a_part : (new : Beside) (octets : List ℕ) (part left : List Change) (last : ℕ) → old.beside ≡ Some new → new.left ≡ part ++ left → length part ≤ part_most → AreNewLines new.sum octets part last
      → GoesOn old (added_beside octets ∷ []) (record { sum = old.sum; beside = Some (record { leases = new.leases; lines = new.lines; left = left; sum = last }) })

-- the last part of a new file: the lines of all changes that have none yet, so many at most
pub record IsLastPart (old : Tail) (octets : List ℕ) (last : ℕ) : Type 0 where
  pub new : Beside
  pub there : old.beside ≡ Some new
  pub few : length new.left ≤ part_most
  pub lines : AreNewLines new.sum octets new.left last

-- what is asked of a renewal up to the first call that fails: of its front, of a part, or of the last part
pub data StopsRenewing (old : Tail) : List DiskCall → Type 0 where
  before_it : StopsRenewing old []
  at_front : (front : List ℕ) (header : Header) (leases last : ℕ) → IsNewFront front header leases last → StopsRenewing old (create_failed front ∷ [])
  at_part : (new : Beside) (octets : List ℕ) (part left : List Change) (last : ℕ) → old.beside ≡ Some new → new.left ≡ part ++ left → AreNewLines new.sum octets part last → StopsRenewing old (add_beside_failed octets ∷ [])
  at_end : (octets : List ℕ) (last : ℕ) → IsLastPart old octets last → StopsRenewing old (added_beside octets ∷ install_failed ∷ [])

-- What a call of a store asks of its disk, in order, each with what came of it, from where the store goes on before it to where it does
-- after it: an append one write of the change's line, a sync one sync, a renewal its front in a new file at first, then its lines part
-- by part, and with the last part that it takes the file's place. A call that failed may have asked nothing.
abbrev pub Asks : StoreCall → (old : Tail) → List DiskCall → (new : Tail) → Type 0
Asks (appended change) old asked new = (octets : List ℕ) × (next : ℕ) × IsNewLine octets old.sum change next × (asked ≡ added octets ∷ []) × (new ≡ record { sum = next; beside = with_line_of change old.beside })
Asks (append_failed change) old asked new = (asked ≡ []) ⊎ ((octets : List ℕ) × (next : ℕ) × IsNewLine octets old.sum change next × (asked ≡ add_failed octets ∷ []))
Asks synced old asked new = (asked ≡ flushed ∷ []) × (new ≡ old)
Asks sync_failed old asked new = (asked ≡ []) ⊎ (asked ≡ flush_failed ∷ [])
Asks (renewal_began header changes) old asked new = (front : List ℕ) × (last : ℕ) × IsNewFront front header (length changes) last × (asked ≡ created front ∷ [])
    × (new ≡ record { sum = old.sum; beside = Some (record { leases = length changes; lines = length changes; left = changes; sum = last }) })
Asks renewal_went_on old asked new = GoesOn old asked new
Asks renewed old asked new = (octets : List ℕ) × (last : ℕ) × IsLastPart old octets last × (asked ≡ added_beside octets ∷ installed ∷ []) × (new ≡ tail_at last)
Asks renewal_failed old asked new = StopsRenewing old asked

-- what calls ask, one after the other
pub data AskInTurn : List StoreCall → (old : Tail) → List DiskCall → (new : Tail) → Type 0 where
  nothing_asked : (at : Tail) → AskInTurn [] at [] at
  one_more_asks : (call : StoreCall) (calls : List StoreCall) (old mid new : Tail) (asked others : List DiskCall) → Asks call old asked mid → AskInTurn calls mid others new → AskInTurn (call ∷ calls) old (asked ++ others) new

-- ---- the store

-- the disk, whether a call has failed, the leases with which the file was written, and the lines of leases and changes that it has
abbrev pub disk_of : {D : Type 0} → DiskStore D → D
disk_of store = store.disk

abbrev pub is_broken : {D : Type 0} → DiskStore D → Bool
is_broken store = is_some store.error

abbrev pub written_of : {D : Type 0} → DiskStore D → ℕ
written_of store = store.written

abbrev pub lines_of : {D : Type 0} → DiskStore D → ℕ
lines_of store = store.lines

-- a new file, if there is one
abbrev pub beside_of : NewFile → Beside
beside_of new = record { leases = new.leases; lines = new.lines; left = new.left.items; sum = new.sum }

abbrev pub beside_in : Option NewFile → Option Beside
beside_in None = None
beside_in (Some new) = Some (beside_of new)

-- where it goes on
abbrev pub tail_of : {D : Type 0} → DiskStore D → Tail
tail_of store = record { sum = store.sum; beside = beside_in store.draft }

-- the checksum that a call returned, where it went well
abbrev pub sum_in : {E : Type 0} → Result ℕ E → ℕ
sum_in (Ok sum) = sum
sum_in (Err why) = 0

-- the leases of a new file, if there is one, and its lines
abbrev pub leases_in : Option Beside → (otherwise : ℕ) → ℕ
leases_in None otherwise = otherwise
leases_in (Some new) otherwise = new.leases

abbrev pub lines_in : Option Beside → (otherwise : ℕ) → ℕ
lines_in None otherwise = otherwise
lines_in (Some new) otherwise = new.lines

-- the leases with which the file was written, after a call
abbrev pub written_after : StoreCall → Tail → ℕ → ℕ
written_after renewed tail written = leases_in tail.beside written
written_after call tail written = written

-- the lines after a call; of 64 bits
abbrev pub lines_after : StoreCall → Tail → ℕ → ℕ
lines_after (appended change) tail lines = min (lines + 1) (2 ^ 64 - 1)
lines_after renewed tail lines = lines_in tail.beside lines
lines_after call tail lines = lines

-- A call of a store over a disk asks the disk what such a call does. It is broken afterwards exactly if the call failed, and where
-- it was broken it asks nothing.
pub record StoreDoes {D : Type 0} (does : D → DiskCall → D → Type 0) (old : DiskStore D) (call : StoreCall) (new : DiskStore D) : Type 0 where
  pub asked : List DiskCall
  pub chain : Chain does (disk_of old) asked (disk_of new)
  pub asks : Asks call (tail_of old) asked (tail_of new)
  pub breaks : is_broken new ≡ has_failed call
  pub nothing : is_broken old ≡ true → asked ≡ []
  pub written_is : written_of new ≡ written_after call (tail_of old) (written_of old)
  pub counts : lines_of new ≡ lines_after call (tail_of old) (lines_of old)

-- more than four times as many lines as leases with which it was written, and more than 1,024
abbrev pub is_long_by : (written lines : ℕ) → Bool
is_long_by written lines = nat_lt written (lines / 4) && nat_lt 1024 lines

-- ---- the parts of a call

-- Some calls of a disk lead from one state to another, and a call of a store asks them.
abbrev pub IsAsked : {D : Type 0} → (D → DiskCall → D → Type 0) → D → D → StoreCall → (old new : Tail) → Type 0
IsAsked does before after call old new = (asked : List DiskCall) × Chain does before asked after × Asks call old asked new

-- a change's line is written, or not
abbrev pub AsksForLine : {D E : Type 0} → (D → DiskCall → D → Type 0) → Change → (sum : ℕ) → Option Beside → D → Result ℕ E → Option Beside → D → Type 0
AsksForLine does change sum beside old (Ok next) new_beside new = IsAsked does old new (appended change) (record { sum = sum; beside = beside }) (record { sum = next; beside = new_beside })
AsksForLine does change sum beside old (Err why) new_beside new = (next : Tail) → IsAsked does old new (append_failed change) (record { sum = sum; beside = beside }) next

-- a new file is begun, whatever there was before, or not
abbrev pub AsksToBegin : {D E : Type 0} → (D → DiskCall → D → Type 0) → Header → List Change → D → Result NewFile E → D → Type 0
AsksToBegin does header changes old (Ok draft) new = (sum : ℕ) (beside : Option Beside) → IsAsked does old new (renewal_began header changes) (record { sum = sum; beside = beside }) (record { sum = sum; beside = Some (beside_of draft) })
AsksToBegin does header changes old (Err why) new = (before after : Tail) → IsAsked does old new renewal_failed before after

-- where it goes on with a new file, that is in the file's place or not
abbrev pub tail_with : (is_whole : Bool) → Beside → Tail → Tail
tail_with true new tail = tail_at new.sum
tail_with false new tail = record { sum = tail.sum; beside = Some new }

-- a new file is gone on with, or not
abbrev pub AsksToGoOn : {D E : Type 0} → (D → DiskCall → D → Type 0) → Beside → D → Result Bool E → Beside → D → Type 0
AsksToGoOn does beside old (Ok is_whole) new_beside new = (sum : ℕ) → IsAsked does old new (if is_whole then renewed else renewal_went_on) (record { sum = sum; beside = Some beside }) (tail_with is_whole new_beside (record { sum = sum; beside = None }))
AsksToGoOn does beside old (Err why) new_beside new = (sum : ℕ) (after : Tail) → IsAsked does old new renewal_failed (record { sum = sum; beside = Some beside }) after
