-- What is known of a host by its fields, said of the host.
use Rattle.std.proofs.Common.{◌≡◌, ℕ, Bool, false, List, [], ◌++◌, Option, Some, None, Result, Ok, Err, refl, sym, ap, subst, ◌∙◌}
use Rattle.std.specs.Prelude.{is_some}
use Rattle.std.specs.List.{list_all}
use Rattle.std.specs.Result.{MatchResult}
use Rattle.std.specs.Io.KnownBytes.{Appends}
use Rattle.std.proofs.lemmas.Bool.{false≢true, or_parts}
use Rattle.nbt_name.specs.declared.addr.Addr.{Addr}
use Rattle.nbt_port.specs.PortCalls.{PortCall}
use Rattle.nbt_host.specs.Goals.{is_held}
use Rattle.nbt_host.specs.declared.asked.Asked.{Asked}
use Rattle.nbt_log.specs.Dates.{second_at}
use Rattle.nbt_port.proofs.Printed.{appends_nothing}
use Rattle.nbt_host.specs.Host.{HostingValue, Running, dates_of, going_on_with}
use Rattle.nbt_host.specs.Running.{IsOverAt}
use Rattle.nbt_host.specs.Staying.{HostsUntil}
use Rattle.nbt_host.specs.TurnLines.{TellsTurn, IsChangeLine, has_lines}
use Rattle.nbt_host.specs.Turning.{PrintsTurn, prints_lines}
use Rattle.nbt_host.specs.declared.watching.Look.{Look}
use Rattle.nbt_host.specs.declared.arguments.HostArguments.{HostArguments}
use Rattle.nbt_host.specs.declared.host.Shown.{Shown}
use Rattle.nbt_host.proofs.Quiet.{quiet_turn}

-- nothing is printed where no other server is asked
no_change : (second seconds : ℕ) (server : Addr) (next : Option Asked) → is_some next ≡ false → IsChangeLine second seconds server next []
no_change second seconds server None none = refl
no_change second seconds server (Some next) none = absurd (false≢true (sym none))

-- nothing is printed of a turn that has no lines
pub prints_nothing : {K : Type 0} (a : HostArguments) (shown : Shown) (h : HostingValue K) (text : Option (List ℕ)) → prints_lines a shown h ≡ false → PrintsTurn a shown h text text
prints_nothing a shown h text none =
    let second = second_at (dates_of h.last) shown.at in
    let parts = or_parts (is_some (going_on_with a h)) (has_lines a.log shown.slept h.host.goals) none in
    ([], [], quiet_turn second a.log h.asked.server shown.slept h.host.goals parts.1, no_change second a.config.longest h.asked.server (going_on_with a h) parts.0, appends_nothing text)

-- its lines, as they were written one after the other
pub prints_all : {K : Type 0} (a : HostArguments) (shown : Shown) (h : HostingValue K) (lines change first whole : List ℕ) (old_text text : Option (List ℕ)) → TellsTurn (second_at (dates_of h.last) shown.at) a.log h.asked.server shown.slept h.host.goals lines
    → IsChangeLine (second_at (dates_of h.last) shown.at) a.config.longest h.asked.server (going_on_with a h) change → first ≡ lines → whole ≡ first ++ change → Appends old_text text whole → PrintsTurn a shown h old_text text
prints_all a shown h lines change first whole old_text text tells changes one two printed =
    (lines, change, tells, changes, subst (λ (w : List ℕ). Appends old_text text w) (two ∙ ap (λ (f : List ℕ). f ++ change) one) printed)

-- the end of a host's time, by what its calls returned
pub over_at : {P K : Type 0} (does : P → PortCall → P → Type 0) (tells : K → ℕ → K → Type 0) (looks : K → Look → K → Type 0) (a : HostArguments) (until : Option ℕ) (goes : Running P K → Running P K → Type 0)
    (old stayed new : Running P K) (fields : HostingValue K) (now : ℕ) (read : K) (all : Bool) → fields ≡ stayed.host → HostsUntil does tells looks a until old stayed → tells fields.watch now read
    → all ≡ list_all (is_held fields.host.node now) fields.host.goals → goes (record { port = stayed.port; host = record fields { watch = read }; text = stayed.text }) new
    → IsOverAt does tells looks a until goes old all new
over_at {P = P} {K = K} does tells looks a until goes old stayed new fields now read all is stays told held end = record {
  stayed = stayed;
  now = now;
  read = read;
  stays = stays;
  told = subst (λ (h : HostingValue K). tells h.watch now read) is told;
  all_is = subst (λ (h : HostingValue K). all ≡ list_all (is_held h.host.node now) h.host.goals) is held;
  goes_on = subst (λ (h : HostingValue K). goes (record { port = stayed.port; host = record h { watch = read }; text = stayed.text }) new) is end;
}

-- what is known of a result, by what it is
pub when_ok : {A B : Type 0} (r : Result A B) (a : A) (P : A → Type 0) (Q : B → Type 0) → r ≡ Ok a → MatchResult r P Q → P a
when_ok {A = A} {B = B} r a P Q is x = subst (λ (s : Result A B). MatchResult s P Q) is x

pub when_err : {A B : Type 0} (r : Result A B) (b : B) (P : A → Type 0) (Q : B → Type 0) → r ≡ Err b → MatchResult r P Q → Q b
when_err {A = A} {B = B} r b P Q is x = subst (λ (s : Result A B). MatchResult s P Q) is x
