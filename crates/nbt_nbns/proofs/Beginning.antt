-- A name server begins over this machine, with a state or without one.
use Rattle.std.proofs.Common.{◌≡◌, ◌⊎◌, ℕ, List, [], Option, Some, None, Result, Ok, Err, refl, subst, inl, inr}
use Rattle.std.specs.Prelude.{IfErr}
use Rattle.nbt_lease.specs.Lease.{Rows}
use Rattle.nbt_server.specs.Serving.{ServerValue}
use Rattle.nbt_server.specs.Calls.{limited}
use Rattle.nbt_port.specs.Udp.{PortsValue}
use Rattle.nbt_port.specs.declared.ahead.Ahead.{Ahead}
use Rattle.nbt_port.specs.declared.fault.Fault.{Fault}
use Rattle.nbt_port.specs.declared.fault.Fault.TheVariants.{Memory, Output}
use Rattle.nbt_front.specs.FrontPort.{Fronted}
use Rattle.nbt_front.specs.Standing.{in_the_way}
use Rattle.nbt_serve.specs.Runs.{live_rows}
use Rattle.nbt_serve.specs.Sharing.{ShareValue, share_of}
use Rattle.nbt_serve.specs.Waiting.{WaitingValue, none_waits}
use Rattle.nbt_store.specs.declared.beginning.Begun.{Begun}
use Rattle.nbt_nbns.specs.Folders.{FolderValue}
use Rattle.nbt_nbns.specs.Inner.Resuming.{kept_of}
use Rattle.nbt_nbns.specs.Inner.Starting.{AreRead, Starts, StartsNot, staying_of}
use Rattle.nbt_nbns.specs.Places.{FileValue}
use Rattle.nbt_nbns.specs.Running.{Nbns, Begins, at_first, new_journal, port_at_first}
use Rattle.nbt_nbns.specs.Servers.{dates_of, kept_at_first}
use Rattle.nbt_nbns.specs.declared.arguments.NbnsArguments.{NbnsArguments}
use Rattle.nbt_nbns.specs.declared.first_line.Manner.{Manner}
use Rattle.nbt_nbns.specs.declared.journal.Journal.{Journal}
use Rattle.nbt_nbns.specs.declared.opening.Told.{Told}
use Rattle.nbt_nbns.specs.declared.starting.Started.{Started}
use Rattle.nbt_nbns.specs.declared.teller.Untold.{Untold}

-- what a server is at first that starts without a state, from what made it
pub is_at_first : (a : NbnsArguments) (start clock time day no_day : ℕ) (first server : ServerValue) (journal : Journal ℕ FileValue) (text : Option (List ℕ))
    → clock ≡ start → day ≡ time → no_day ≡ 0 → server ≡ limited (Some a.rows_per_client) first → journal ≡ new_journal a (record { moment = start; time = time }) day start
    → staying_of {S = FolderValue} (port_at_first a []) (record { clock = clock; server = server; state = None; day = no_day; journal = journal }) text ≡ at_first a start time first text
is_at_first a start clock time day no_day first server journal text c d n s j = cc

-- and what one is that begins with a state
pub is_kept_at_first : (a : NbnsArguments) (begun : Begun) (monotonic time : ℕ) (store : FolderValue) (clock day : ℕ) (share : ShareValue) (waiting : WaitingValue) (teller : List Untold) (journal : Journal ℕ FileValue) (kept : Started FolderValue (Ahead ℕ) ℕ (Journal ℕ FileValue)) (standing : Rows) (text : Option (List ℕ))
    → clock ≡ monotonic → day ≡ time → share ≡ share_of a.changes_per_client → waiting ≡ none_waits begun.header.last → teller ≡ [] → journal ≡ new_journal a (dates_of begun time) 0 begun.start
    → kept ≡ kept_of begun store clock day share waiting teller journal a.rows_per_client → standing ≡ in_the_way a.front.fixed (live_rows begun.server)
    → staying_of (port_at_first a standing) kept text ≡ kept_at_first a begun store monotonic time text
is_kept_at_first a begun monotonic time store clock day share waiting teller journal kept standing text c d h w t j k o = cc

-- both clocks stay at what they told
pub are_read : (steady : ℕ) (told : Told) (day : ℕ) → AreRead steady told day → AreRead told.monotonic told told.time
are_read steady told day r = record {
  boot = r.boot;
  day_before = r.day_before;
  begins = r.begins;
  before_told = r.before_told;
  monotonic_told = let t = r.monotonic_told in record { reading = t.reading; shown = t.shown; moment_is = t.moment_is; never_back = t.never_back; keeps = refl };
  time_told = (refl, r.time_told.1);
}

-- a server that began goes on behind its port
pub begins : {C : Type 0} (starts : Manner → Nbns C → Type 0) (goes : Nbns C → Nbns C → Type 0) (a : NbnsArguments) (standing : Rows) (old_text begun_text text : Option (List ℕ)) (port : Fronted PortsValue) (s : Started FolderValue C ℕ (Journal ℕ FileValue)) (new : Nbns C)
    → Starts starts a standing old_text begun_text s → port ≡ port_at_first a standing → new.text ≡ text → goes (staying_of port s begun_text) new → Begins starts goes old_text text
begins starts goes a standing old_text begun_text text port s new b port_is text_is run = record {
  at = b.at;
  manner = b.manner;
  line = b.line;
  first = staying_of (port_at_first a standing) s begun_text;
  last = new;
  begins = b.begins;
  is_first = b.is_first;
  printed = b.printed;
  goes_on = subst (λ (p : Fronted PortsValue). goes (staying_of p s begun_text) new) port_is run;
  text_is = text_is;
}

-- a fault that says this says that
pub if_err_weaker : {T E : Type 0} {P Q : E → Type 0} (r : Result T E) → ((e : E) → P e → Q e) → IfErr r P → IfErr r Q
if_err_weaker (Ok x) f was = tt
if_err_weaker (Err e) f was = f e was

-- what holds of a fault, where it is this one
pub of_err : {T E : Type 0} (P : E → Type 0) (r : Result T E) (e : E) → r ≡ Err e → IfErr r P → P e
of_err P r e is was = subst (λ x. IfErr x P) is was

-- what isn't for the device, of these faults
pub for_memory : (text : Option (List ℕ)) (r : Fault) → r ≡ Memory → StartsNot text text r
for_memory text r is = inr ((λ was. cc), refl)

-- how it doesn't begin, where the line isn't printed
pub not_told : (old_text text : Option (List ℕ)) (r : Fault) → (r ≡ Output) ⊎ ((r ≡ Memory) × (text ≡ old_text)) → StartsNot old_text text r
not_told old_text text r (inl is) = inl is
not_told old_text text r (inr (is, same)) = inr ((λ was. cc), same)
