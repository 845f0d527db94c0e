-- A server decides whether it goes on with what was kept, part by part.
use Rattle.std.proofs.Common.{◌≡◌, ℕ, ◌+◌, ◌<◌, ◌≤◌, List, Some, Result, Ok, Err, refl, sym, subst}
use Rattle.std.specs.Prelude.{IfOk}
use Rattle.std.specs.Borrow.{Bor}
use Rattle.nbt_lease.specs.Lease.{Rows, leases_at, live_count, IsSound}
use Rattle.nbt_server.specs.Calls.{ServerResumes, kept_server}
use Rattle.nbt_server.specs.Serving.{ServerValue}
use Rattle.nbt_store.specs.Reading.{IsLoaded, IsRefused}
use Rattle.nbt_store.specs.Silence.{going_on}
use Rattle.nbt_store.specs.declared.fault.ReadFault.{ReadFault}
use Rattle.nbt_store.specs.declared.form.Form.{Form}
use Rattle.nbt_store.specs.declared.header.Header.{Header}
use Rattle.nbt_store.specs.declared.silence.Onward.{Onward}
use Rattle.nbt_store.specs.declared.times.Times.{Times}
use Rattle.nbt_store.specs.Resuming.{IsRecent, IsRefusal, ResumesOn, GoesOnWith, ResumesAs, later_rows, goes_on, too_many, none_that_stand, by_clock, no_file, with_file}
use Rattle.nbt_store.specs.declared.resuming.Decided.{Decided}
use Rattle.nbt_store.specs.declared.resuming.Decided.TheVariants.{Goes, Silent}
use Rattle.nbt_store.specs.declared.resuming.Found.{Found}
use Rattle.nbt_store.specs.declared.resuming.Reason.TheVariants.{Full, Unsound}

-- ---- by a clock

pub goes : (f : Found) (h : Header) (t : Times) (rows seen : Rows) (onward : Onward) (start last now reads : ℕ) (server : ServerValue) → now ≡ onward.serves → reads ≡ onward.reads → start ≡ h.start + onward.shift → last ≡ t.last + onward.shift → last ≤ now
    → seen ≡ later_rows onward.shift rows → ServerResumes (kept_server f.config start last seen) now server → server.last ≡ now → IsSound f.config now (leases_at now seen) → IsRecent f.config onward
    → ResumesOn f h t rows onward (Goes (record { server = server; start = start; reads = reads; ahead = onward.ahead }))
goes f h t rows seen onward start last now reads server n m s l le r resumes called sound recent =
    goes_on (record { server = server; start = start; reads = reads; ahead = onward.ahead }) refl m s (rw (← n, ← l) le) (rw (← n, ← s, ← l, ← r) resumes) (rw (← n) called) (rw (← n, ← r) sound) recent

pub full : (f : Found) (h : Header) (t : Times) (rows seen : Rows) (onward : Onward) (now : ℕ) → now ≡ onward.serves → seen ≡ later_rows onward.shift rows → f.config.rows < live_count now seen → ResumesOn f h t rows onward (Silent Full)
full f h t rows seen onward now n r many = too_many (rw (← n, ← r) many)

pub unsound : (f : Found) (h : Header) (t : Times) (rows seen : Rows) (onward : Onward) (now : ℕ) → now ≡ onward.serves → seen ≡ later_rows onward.shift rows → ¬ IsSound f.config now (leases_at now seen) → ResumesOn f h t rows onward (Silent Unsound)
unsound f h t rows seen onward now n r bad = none_that_stand (rw (← n, ← r) bad)

-- ---- with what was loaded

pub by_that : (f : Found) (form : Form) (h : Header) (t : Times) (rows : Rows) (onward : Onward) {E : Type 0} (r : Result Decided E) → going_on form h t f.config f.seen f.silent_after_boot ≡ Ok onward → IfOk r (ResumesOn f h t rows onward) → IfOk r (GoesOnWith f form h t rows)
by_that f form h t rows onward (Ok decided) going at = by_clock onward decided going at
by_that f form h t rows onward (Err e) going at = tt

-- ---- with octets

pub when_loaded : (f : Found) (octets : Bor (List ℕ)) (form : Form) (h : Header) (t : Times) (rows : Rows) {E : Type 0} (r : Result Decided E) → f.kept ≡ Some octets → IsLoaded octets.now form h t rows → IfOk r (GoesOnWith f form h t rows) → IfOk r (ResumesAs f)
when_loaded f octets form h t rows (Ok decided) kept loaded goes = with_file octets form h t rows decided kept loaded goes
when_loaded f octets form h t rows (Err e) kept loaded goes = tt

pub when_refused : (f : Found) (octets : Bor (List ℕ)) (why : ReadFault) {E : Type 0} (r : Result Decided E) → f.kept ≡ Some octets → IsRefused octets.now why → IfOk r (IsRefusal why) → IfOk r (ResumesAs f)
when_refused f octets why (Ok decided) kept refused is = subst (ResumesAs f) (sym is.2) (no_file octets is.0 kept (subst (IsRefused octets.now) is.1 refused))
when_refused f octets why (Err e) kept refused is = tt
