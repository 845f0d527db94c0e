-- What is read of a file, part by part (our profile).
use Rattle.std.specs.Prelude.{◌≡◌, ◌⊎◌, ℕ, ◌-◌, ◌^◌, ◌<◌, min, List, ◌∷◌, ◌++◌, length, ⊤}
use Rattle.nbt_lease.specs.Lease.{Leases, Rows}
use Rattle.nbt_store.specs.declared.change.Change.{Change}
use Rattle.nbt_store.specs.declared.fault.Fault.{Fault}
use Rattle.nbt_store.specs.declared.fault.Fault.TheVariants.{Damaged}
use Rattle.nbt_store.specs.declared.fault.ReadFault.{ReadFault}
use Rattle.nbt_store.specs.declared.fault.ReadFault.TheVariants as read
use Rattle.nbt_store.specs.declared.header.Head.{Head}
use Rattle.nbt_store.specs.declared.header.Header.{Header}
use Rattle.nbt_store.specs.Changes.{after_all, no_leases}
use Rattle.nbt_store.specs.declared.form.Form.{Form}
use Rattle.nbt_store.specs.declared.reading.Progress.{Progress}
use Rattle.nbt_store.specs.declared.times.Times.{Times}
use Rattle.nbt_store.specs.Forms.{version}
use Rattle.nbt_store.specs.Lines.{whole_lines, IsHead, AreBefore, AllStand, StandsIn, IsNone, IsFile, HasFault, line_number}
use Rattle.nbt_store.specs.Times.{first_times, times_after_all}
use Rattle.nbt_store.specs.Records.{IsRecord}
use Rattle.nbt_store.specs.Loading.{AreRowsOf}

-- out of memory, or the first fault
abbrev pub IsRefused : List ℕ → ReadFault → Type 0
IsRefused octets read.Memory = ⊤
IsRefused octets (read.File fault) = HasFault octets fault

-- the octets are a file, the times are those of its changes, and the rows those that its changes make
pub record IsLoaded (octets : List ℕ) (form : Form) (h : Header) (times : Times) (rows : Rows) : Type 0 where
  pub changes : List Change
  pub last : ℕ
  pub file : IsFile octets form h changes last
  pub stand : AllStand form changes no_leases
  pub times_are : times ≡ times_after_all changes (first_times h)
  pub rows_are : AreRowsOf rows (after_all changes no_leases)

-- the first two lines, and what stands behind them
pub record HasFront (octets : List ℕ) (form : Form) (head : Head) (sum : ℕ) (rest : List ℕ) : Type 0 where
  pub line : List ℕ
  pub lines_are : whole_lines octets ≡ version form ∷ line ∷ whole_lines rest
  pub head_is : IsHead line head sum

-- The second line is the head of this header, whatever stands behind it: a later line may be damaged.
abbrev pub HasHeader : List ℕ → Header → Type 0
HasHeader octets h = (form : Form) × (head : Head) × (sum : ℕ) × (rest : List ℕ) × HasFront octets form head sum rest × (head.header ≡ h)

-- out of memory, or there is no such line
abbrev pub HasNone : List ℕ → ReadFault → Type 0
HasNone octets read.Memory = ⊤
HasNone octets (read.File fault) = (h : Header) → ¬ HasHeader octets h

-- one of these lines, of which the first is that of the first change, is no change's, or of one without its lease
pub record HasBadLine (form : Form) (sum : ℕ) (lines : List (List ℕ)) (fault : Fault) : Type 0 where
  pub before : List (List ℕ)
  pub bad : List ℕ
  pub behind : List (List ℕ)
  pub changes : List Change
  pub last : ℕ
  pub lines_are : lines ≡ before ++ bad ∷ behind
  pub before_are : AreBefore form sum before changes last
  pub none_is : IsNone form last bad ⊎ ((c : Change) × (next : ℕ) × IsRecord form last bad c next × ¬ StandsIn form c (after_all changes no_leases))
  pub fault_is : fault ≡ Damaged (line_number (length before))

-- this line, behind what was read, is no change's, or of one without its lease
abbrev pub IsBadHere : Form → Progress → (line : List ℕ) → Leases → ReadFault → Type 0
IsBadHere form now line made read.Memory = ⊤
IsBadHere form now line made (read.File fault) =
    (IsNone form now.sum line ⊎ ((c : Change) × (next : ℕ) × IsRecord form now.sum line c next × ¬ StandsIn form c made)) × (fault ≡ Damaged (line_number now.count))

abbrev pub IsBadLine : Form → (sum : ℕ) → List (List ℕ) → ReadFault → Type 0
IsBadLine form sum lines read.Memory = ⊤
IsBadLine form sum lines (read.File fault) = HasBadLine form sum lines fault

-- these lines are a change's each, and there are too few of them
pub record AreTooFew (form : Form) (sum : ℕ) (lines : List (List ℕ)) (leases : ℕ) (fault : Fault) : Type 0 where
  pub changes : List Change
  pub last : ℕ
  pub lines_are : AreBefore form sum lines changes last
  pub few : length changes < leases
  pub fault_is : fault ≡ Damaged (line_number (length changes))

-- a line is no change's, or there are too few
abbrev pub IsBadRest : Form → (sum : ℕ) → List (List ℕ) → (leases : ℕ) → ReadFault → Type 0
IsBadRest form sum lines leases read.Memory = ⊤
IsBadRest form sum lines leases (read.File fault) = HasBadLine form sum lines fault ⊎ AreTooFew form sum lines leases fault

-- how many changes were read, in 64 bits
abbrev pub counted : ℕ → ℕ
counted number = min number (2 ^ 64 - 1)

-- what was read so far: the last checksum, how many lines, and until when they go
pub record HaveRead (form : Form) (sum : ℕ) (first : Times) (all left : List (List ℕ)) (made : Leases) (now : Progress) : Type 0 where
  pub before : List (List ℕ)
  pub changes : List Change
  pub lines_are : all ≡ before ++ left
  pub before_are : AreBefore form sum before changes now.sum
  pub made_is : made ≡ after_all changes no_leases
  pub times_are : now.times ≡ times_after_all changes first
  pub count_is : now.count ≡ counted (length before)
