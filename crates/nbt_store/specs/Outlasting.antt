-- Whether a lease that was kept outlasts the silence of a server that begins anew (our profile).
use Rattle.std.specs.Prelude.{◌≡◌, ◌↔◌, ◌⊎◌, ℕ, ◌+◌, ◌-◌, ◌<◌, ◌≤◌, max, Bool, true, false, IsTrue, List, [], ◌∷◌, Any, Some, None, Result, Ok, Err}
use Rattle.std.specs.Borrow.{Bor}
use Rattle.nbt_lease.specs.Config.{ConfigValue, milliseconds}
use Rattle.nbt_lease.specs.Lease.{Rows}
use Rattle.nbt_store.specs.Lines.{HasFault}
use Rattle.nbt_store.specs.Reading.{HasHeader, IsLoaded}
use Rattle.nbt_store.specs.Silence.{going_on}
use Rattle.nbt_store.specs.declared.fault.Fault.{Fault}
use Rattle.nbt_store.specs.declared.header.Header.{Header}
use Rattle.nbt_store.specs.declared.form.Form.{Form}
use Rattle.nbt_store.specs.declared.silence.Onward.{Onward}
use Rattle.nbt_store.specs.declared.silence.Silence.{Silence}
use Rattle.nbt_store.specs.declared.times.Times.{Times}
use Rattle.nbt_store.specs.declared.resuming.Found.{Found}

-- the same header, as if it were of these limits
abbrev pub with_limits : ConfigValue → Header → Header
with_limits config h = record h { life = config.life; longest = config.longest; rows = config.rows }

-- by which clock the file goes on, whatever its limits and its boot are; or that none does
abbrev pub clock_now : Found → Form → Header → Times → Result Onward Silence
clock_now f form h t = going_on form (with_limits f.config h) t f.config f.seen false

-- when the silence of a server ends that begins anew now, by the clock of the file as it was
abbrev pub speaks_anew : Found → Onward → ℕ
speaks_anew f onward = onward.reads - onward.shift + milliseconds f.config.longest

-- when the silence was over of the server that kept it; what was leased before that silence is in no file
abbrev pub silent_until : Header → ℕ
silent_until h = h.start + milliseconds h.longest

-- With this header and these rows: the longest lease was longer, and one of the leases ends after that, or one from before its silence
-- may; or the time isn't known.
pub data OutlastsWith (f : Found) (form : Form) (h : Header) (t : Times) (rows : Rows) : Bool → Type 0 where
  not_longer : h.longest ≤ f.config.longest → OutlastsWith f form h t rows false
  not_known : (why : Silence) → f.config.longest < h.longest → clock_now f form h t ≡ Err why → OutlastsWith f form h t rows true
  known : (onward : Onward) (is : Bool) → f.config.longest < h.longest → clock_now f form h t ≡ Ok onward
      → IsTrue is ↔ ((speaks_anew f onward < silent_until h) ⊎ Any (λ row. speaks_anew f onward < row.1.end) rows) → OutlastsWith f form h t rows is

-- Octets that are no file have lost such a lease, as far as their header tells: the longest lease was longer.
pub data MayHaveLost (f : Found) (octets : List ℕ) : Bool → Type 0 where
  no_header : ((h : Header) → ¬ HasHeader octets h) → MayHaveLost f octets false
  by_header : (h : Header) (is : Bool) → HasHeader octets h → IsTrue is ↔ (f.config.longest < h.longest) → MayHaveLost f octets is

-- What a server finds has such a lease, or may have lost one; or has none.
pub data OutlastsAs (f : Found) : Bool → Type 0 where
  nothing_there : f.kept ≡ None → OutlastsAs f false
  not_a_file : (octets : Bor (List ℕ)) (fault : Fault) (is : Bool) → f.kept ≡ Some octets → HasFault octets.now fault → MayHaveLost f octets.now is → OutlastsAs f is
  a_file : (octets : Bor (List ℕ)) (form : Form) (h : Header) (t : Times) (rows : Rows) (is : Bool) → f.kept ≡ Some octets → IsLoaded octets.now form h t rows → OutlastsWith f form h t rows is → OutlastsAs f is

-- ---- for how long

-- when all of these leases are over, and this time is
abbrev pub latest : (time : ℕ) → Rows → ℕ
latest time [] = time
latest time (row ∷ rows) = latest (max time row.1.end) rows

-- So many milliseconds from now on: a server that begins anew then speaks when all of the kept leases are over, and what was leased before the
-- silence of the server that kept them. The clock goes on while nobody serves.
pub record OutlastsFor (f : Found) (wait : ℕ) : Type 0 where
  pub octets : Bor (List ℕ)
  pub form : Form
  pub header : Header
  pub times : Times
  pub rows : Rows
  pub onward : Onward
  pub kept : f.kept ≡ Some octets
  pub loaded : IsLoaded octets.now form header times rows
  pub clock : clock_now f form header times ≡ Ok onward
  pub goes_on : onward.serves ≡ onward.reads
  pub wait_is : wait ≡ latest (silent_until header) rows - speaks_anew f onward
