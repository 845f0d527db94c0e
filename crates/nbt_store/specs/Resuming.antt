-- Whether a server that starts goes on with what was kept (our profile).
use Rattle.std.specs.Prelude.{◌≡◌, ℕ, ◌+◌, ◌-◌, ◌^◌, ◌<◌, ◌≤◌, min, map, List, Some, None, Ok, Err}
use Rattle.std.specs.Borrow.{Bor}
use Rattle.nbt_lease.specs.Config.{ConfigValue, milliseconds}
use Rattle.nbt_lease.specs.Lease.{Rows, leases_at, live_count, IsSound}
use Rattle.nbt_server.specs.Calls.{ServerResumes, kept_server}
use Rattle.nbt_store.specs.Lines.{HasFault}
use Rattle.nbt_store.specs.Reading.{IsLoaded}
use Rattle.nbt_store.specs.Silence.{going_on}
use Rattle.nbt_store.specs.declared.fault.Fault.{Fault}
use Rattle.nbt_store.specs.declared.fault.ReadFault.{ReadFault}
use Rattle.nbt_store.specs.declared.fault.ReadFault.TheVariants as read
use Rattle.nbt_name.specs.Wire.{NameValue}
use Rattle.nbt_lease.specs.declared.lease.Lease.{Lease}
use Rattle.nbt_store.specs.declared.form.Form.{Form}
use Rattle.nbt_store.specs.declared.header.Header.{Header}
use Rattle.nbt_store.specs.declared.silence.Onward.{Onward}
use Rattle.nbt_store.specs.declared.times.Times.{Times}
use Rattle.nbt_store.specs.declared.silence.Silence.{Silence}
use Rattle.nbt_store.specs.declared.resuming.Found.{Found}
use Rattle.nbt_store.specs.declared.resuming.Going.{Going}
use Rattle.nbt_store.specs.declared.resuming.Reason.TheVariants.{Nothing, File, Other, Full, Unsound, Over}
use Rattle.nbt_store.specs.declared.resuming.Decided.{Decided}
use Rattle.nbt_store.specs.declared.resuming.Decided.TheVariants.{Goes, Silent}

-- The longest lease hasn't passed since the last time of the file. So the server that kept it served less than one longest lease ago, and
-- none that began anew since then can have granted anything: it is silent for as long.
abbrev pub IsRecent : ConfigValue → Onward → Type 0
IsRecent config onward = onward.passed < milliseconds config.longest

-- the rows, with leases that end so much later; of 64 bits
abbrev pub later_row : (by : ℕ) → NameValue × Lease → NameValue × Lease
later_row by row = (row.0, record row.1 { end = min (row.1.end + by) (2 ^ 64 - 1) })

abbrev pub later_rows : (by : ℕ) → Rows → Rows
later_rows by rows = map (later_row by) rows

-- By this clock: the server goes on with what lives of these rows, from the time on from which it serves, which is no earlier than the last
-- time of the file; unless they are more than its limits allow, or none that a server has, or the file is old enough that another server
-- may have served since.
pub data ResumesOn (f : Found) (h : Header) (t : Times) (rows : Rows) (onward : Onward) : Decided → Type 0 where
  goes_on : (going : Going) → going.ahead ≡ onward.ahead → going.reads ≡ onward.reads → going.start ≡ h.start + onward.shift → t.last + onward.shift ≤ onward.serves
      → ServerResumes (kept_server f.config (h.start + onward.shift) (t.last + onward.shift) (later_rows onward.shift rows)) onward.serves going.server → going.server.last ≡ onward.serves
      → IsSound f.config onward.serves (leases_at onward.serves (later_rows onward.shift rows)) → IsRecent f.config onward → ResumesOn f h t rows onward (Goes going)
  too_many : f.config.rows < live_count onward.serves (later_rows onward.shift rows) → ResumesOn f h t rows onward (Silent Full)
  too_old : ¬ IsRecent f.config onward → ResumesOn f h t rows onward (Silent Over)
  none_that_stand : ¬ IsSound f.config onward.serves (leases_at onward.serves (later_rows onward.shift rows)) → ResumesOn f h t rows onward (Silent Unsound)

-- With what was loaded: by the clock that `going_on` names, where it names one.
pub data GoesOnWith (f : Found) (form : Form) (h : Header) (t : Times) (rows : Rows) : Decided → Type 0 where
  not_now : (why : Silence) → going_on form h t f.config f.seen f.silent_after_boot ≡ Err why → GoesOnWith f form h t rows (Silent (Other why))
  by_clock : (onward : Onward) (decided : Decided) → going_on form h t f.config f.seen f.silent_after_boot ≡ Ok onward → ResumesOn f h t rows onward decided → GoesOnWith f form h t rows decided

-- octets that aren't read are a reason, unless memory is out
abbrev pub IsRefusal : ReadFault → Decided → Type 0
IsRefusal why decided = (fault : Fault) × (why ≡ read.File fault) × (decided ≡ Silent (File fault))

-- What a server that finds this does.
pub data ResumesAs (f : Found) : Decided → Type 0 where
  nothing_kept : f.kept ≡ None → ResumesAs f (Silent Nothing)
  no_file : (octets : Bor (List ℕ)) (fault : Fault) → f.kept ≡ Some octets → HasFault octets.now fault → ResumesAs f (Silent (File fault))
  with_file : (octets : Bor (List ℕ)) (form : Form) (h : Header) (t : Times) (rows : Rows) (decided : Decided) → f.kept ≡ Some octets → IsLoaded octets.now form h t rows → GoesOnWith f form h t rows decided → ResumesAs f decided
