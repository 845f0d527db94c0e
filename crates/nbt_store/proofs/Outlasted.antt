-- Whether a lease that was kept outlasts the silence of a server that begins anew, part by part.
use Rattle.std.proofs.Common.{◌≡◌, ℕ, ◌-◌, ◌<◌, ◌⊎◌, Bool, true, false, List, Option, Some, None, Result, Ok, Err, subst}
use Rattle.std.specs.Prelude.{◌↔◌, IsTrue, IfOk, IfSome, Any}
use Rattle.std.specs.Borrow.{Bor}
use Rattle.nbt_lease.specs.Lease.{Rows}
use Rattle.nbt_store.specs.Reading.{IsLoaded, IsRefused}
use Rattle.nbt_store.specs.Silence.{going_on}
use Rattle.nbt_store.specs.declared.fault.Fault.{Fault}
use Rattle.nbt_store.specs.declared.fault.ReadFault.{ReadFault}
use Rattle.nbt_store.specs.declared.fault.ReadFault.TheVariants as read
use Rattle.nbt_store.specs.declared.form.Form.{Form}
use Rattle.nbt_store.specs.declared.header.Header.{Header}
use Rattle.nbt_store.specs.declared.silence.Onward.{Onward}
use Rattle.nbt_store.specs.declared.times.Times.{Times}
use Rattle.nbt_store.specs.declared.silence.Silence.{Silence}
use Rattle.nbt_store.specs.Outlasting.{clock_now, latest, with_limits, silent_until, speaks_anew, MayHaveLost, OutlastsFor, OutlastsWith, OutlastsAs, known, not_known, not_a_file}
use Rattle.nbt_store.specs.declared.resuming.Found.{Found}

pub when_refused : (f : Found) (octets : Bor (List ℕ)) (why : ReadFault) {E : Type 0} (r : Result Bool E) → f.kept ≡ Some octets → IsRefused octets.now why
    → IfOk r (λ is. (fault : Fault) × (why ≡ read.File fault) × MayHaveLost f octets.now is) → IfOk r (OutlastsAs f)
when_refused f octets why (Ok is) kept refused told = not_a_file octets told.0 is kept (subst (IsRefused octets.now) told.1 refused) told.2
when_refused f octets why (Err e) kept refused told = tt

pub in_time : (f : Found) (form : Form) (h judged : Header) (t : Times) (rows : Rows) (onward : Onward) (time : ℕ) (is : Bool) → f.config.longest < h.longest → judged ≡ with_limits f.config h → going_on form judged t f.config f.seen false ≡ Ok onward
    → time ≡ speaks_anew f onward → IsTrue is ↔ ((time < silent_until h) ⊎ Any (λ row. time < row.1.end) rows) → OutlastsWith f form h t rows is
in_time f form h judged t rows onward time is longer j going at told =
    known onward is longer (subst (λ (x : Header). going_on form x t f.config f.seen false ≡ Ok onward) j going) (subst (λ (x : ℕ). IsTrue is ↔ ((x < silent_until h) ⊎ Any (λ row. x < row.1.end) rows)) at told)

pub no_time : (f : Found) (form : Form) (h judged : Header) (t : Times) (rows : Rows) (why : Silence) → f.config.longest < h.longest → judged ≡ with_limits f.config h → going_on form judged t f.config f.seen false ≡ Err why → OutlastsWith f form h t rows true
no_time f form h judged t rows why longer j going = not_known why longer (subst (λ (x : Header). going_on form x t f.config f.seen false ≡ Err why) j going)

-- for how long a lease outlasts the silence, by what was loaded
pub waits : (f : Found) (octets : Bor (List ℕ)) (form : Form) (h : Header) (t : Times) (rows : Rows) (r : Option ℕ) → f.kept ≡ Some octets → IsLoaded octets.now form h t rows
    → IfSome r (λ wait. (onward : Onward) × (clock_now f form h t ≡ Ok onward) × (onward.serves ≡ onward.reads) × (wait ≡ latest (silent_until h) rows - speaks_anew f onward)) → IfSome r (OutlastsFor f)
waits f octets form h t rows None kept loaded told = tt
waits f octets form h t rows (Some wait) kept loaded told = record {
  octets = octets;
  form = form;
  header = h;
  times = t;
  rows = rows;
  onward = told.0;
  kept = kept;
  loaded = loaded;
  clock = told.1;
  goes_on = told.2;
  wait_is = told.3;
}
