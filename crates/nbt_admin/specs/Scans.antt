-- The arguments of `scan` (our profile).
use Rattle.std.specs.Prelude.{◌≡◌, ◌⊎◌, ℕ, nat_eq, if◌then◌else◌, Bool, true, false, List, [], Result}
use Rattle.std.specs.Borrow.{Bor}
use Rattle.std.specs.Result.{MatchResult}
use Rattle.nbt_name.specs.declared.addr.Addr.{Addr}
use Rattle.nbt_scan.specs.declared.form.Form.{Form}
use Rattle.nbt_scan.specs.declared.form.Form.TheVariants.{Plain, Long, Hosts, Json}
use Rattle.nbt_scan.specs.declared.span.Span.{Span}
use Rattle.nbt_scan.specs.Spans.{AreFew, AreOf}
use Rattle.nbt_scan.specs.Words.{SpellsSpan}
use Rattle.nbt_args.specs.declared.scan.ScanTexts.{ScanTexts}
use Rattle.nbt_admin.specs.Failures.{Reports, out_of_memory}
use Rattle.nbt_admin.specs.Reading.{Reads, Where, Then, Makes, Each}
use Rattle.nbt_admin.specs.Texts.{AreOfOne, ReadsSource}
use Rattle.nbt_admin.specs.Times.{ReadsUpTo, SpellsWait, AreTries}
use Rattle.nbt_admin.specs.declared.failure.ArgumentFault.{ArgumentFault}
use Rattle.nbt_admin.specs.declared.failure.ArgumentFault.TheVariants as w
use Rattle.nbt_admin.specs.declared.failure.Complaint.TheVariants as complaint
use Rattle.nbt_admin.specs.declared.failure.Failure.{Failure}
use Rattle.nbt_admin.specs.declared.failure.Failure.TheVariants.{Complaint}
use Rattle.nbt_admin.specs.declared.scanning.ScanArguments.{ScanArguments}

-- ---- networks, ranges and addresses

-- what is said of one address that isn't of one machine, and of several of which one isn't
abbrev pub fault_of_run : Span → ArgumentFault
fault_of_run span = if nat_eq span.first span.last then w.NotOne else w.NotEachOne

-- a network, a range or an address, of which each address is of one machine
abbrev pub ReadsSpan : List ℕ → Result Span Failure → Type 0
ReadsSpan text result = MatchResult result (λ span. SpellsSpan text span × AreOfOne span.first span.last)
    (λ failure. ((fault : ArgumentFault) × (((span : Span) → ¬ SpellsSpan text span) × Reports text fault failure))
    ⊎ ((span : Span) × (SpellsSpan text span × ((¬ AreOfOne span.first span.last) × Reports text (fault_of_run span) failure))))

-- not too many addresses
abbrev pub ReadsSpans : List (Bor (List ℕ)) → Result (List Span) Failure → Type 0
ReadsSpans texts = Where (Each (λ _ text. ReadsSpan text.now) [] texts) AreFew (λ failure. failure ≡ Complaint complaint.ManyAddresses)

-- ---- numbers

-- no requests in a second are more, and no port is greater
abbrev pub rate_most : ℕ
rate_most = 10000

abbrev pub port_most : ℕ
port_most = 65535

abbrev pub ReadsWait : List ℕ → Result ℕ Failure → Type 0
ReadsWait text = Reads (SpellsWait text) (Reports text w.Wait)

-- ---- all of them

abbrev pub form_of : (long hosts json : Bool) → Form
form_of long hosts true = Json
form_of long true false = Hosts
form_of true false false = Long
form_of false false false = Plain

-- these values
pub record IsScan (texts : ScanTexts) (rate wait port : ℕ) (bind : Addr) (spans : List Span) (a : ScanArguments) : Type 0 where
  pub bind_is : a.bind ≡ bind
  pub rate_is : a.plan.rate ≡ rate
  pub wait_is : a.plan.wait ≡ wait
  pub port_is : a.plan.port ≡ port
  pub ips_are : AreOf spans a.plan.ips.items
  pub tries_are : AreTries texts.tries.now a.plan.tries
  pub form_is : a.layout.form ≡ form_of texts.long texts.hosts texts.json
  pub sorted_is : a.layout.sorted ≡ texts.sorted
  pub progress_is : a.progress ≡ texts.progress

abbrev pub ReadsScan : ScanTexts → Result ScanArguments Failure → Type 0
ReadsScan texts = Then (ReadsUpTo rate_most w.Rate texts.rate.now) (λ rate.
    Then (ReadsWait texts.wait.now) (λ wait.
    Then (ReadsUpTo port_most w.Port texts.port.now) (λ port.
    Then (ReadsSource texts.bind.now) (λ bind.
    Then (ReadsSpans texts.addresses.items) (λ spans.
    Makes (IsScan texts rate wait port bind spans))))))
