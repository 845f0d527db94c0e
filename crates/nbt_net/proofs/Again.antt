-- What a server that begins wrote is what a run begins with, so it goes on over any number of lives.
use Rattle.std.proofs.Common.{◌≡◌, ◌≤◌, ◌+◌, ℕ, max, List, [], ◌∷◌, ◌++◌, map, Option, Some, None, Ok, refl, sym, ap, subst, ◌∙◌, arith}
use Rattle.nbt_name.specs.Wire.{NameValue}
use Rattle.nbt_lease.specs.Config.{ConfigValue, IsConfig, IsLongest}
use Rattle.nbt_lease.specs.Lease.{Leases, Rows, leases_at, AreApart}
use Rattle.nbt_lease.proofs.Rows.{none_live, later_is}
use Rattle.nbt_port.specs.PortCalls.{Chain}
use Rattle.nbt_port.proofs.Chains.{chain_on, chain-append}
use Rattle.nbt_server.specs.Calls.{ServerStarts, limited}
use Rattle.nbt_server.specs.Serving.{ServerValue}
use Rattle.nbt_server.specs.Shifted.{shifted_server}
use Rattle.nbt_store.specs.Beginning.{BeginsAs, IsBegun, BeginsAnew}
use Rattle.nbt_store.specs.Calls.{Kept}
use Rattle.nbt_store.specs.Changes.{after_all, at_of, begun_all, last_of, no_leases}
use Rattle.nbt_store.specs.Lines.{AllStand}
use Rattle.nbt_store.specs.Resuming.{GoesOnWith, ResumesAs, ResumesOn, goes_on, too_many, too_old, none_that_stand, not_now, by_clock, nothing_kept, no_file, with_file}
use Rattle.nbt_store.specs.Silence.{going_on, unseen}
use Rattle.nbt_store.specs.declared.beginning.Begun.{Begun}
use Rattle.nbt_store.specs.declared.change.Change.{Change}
use Rattle.nbt_store.specs.declared.form.Form.{Form}
use Rattle.nbt_store.specs.declared.form.Form.TheVariants.{Three}
use Rattle.nbt_store.specs.declared.header.Header.{Header}
use Rattle.nbt_store.specs.declared.resuming.Decided.{Decided}
use Rattle.nbt_store.specs.declared.resuming.Decided.TheVariants.{Goes, Silent}
use Rattle.nbt_store.specs.declared.resuming.Found.{Found}
use Rattle.nbt_store.specs.declared.resuming.Going.{Going}
use Rattle.nbt_store.specs.declared.resuming.Reason.{Reason}
use Rattle.nbt_store.specs.declared.silence.Onward.{Onward}
use Rattle.nbt_store.specs.declared.times.Times.{Times}
use Rattle.nbt_serve.specs.Changing.{IsKept}
use Rattle.nbt_serve.specs.Runs.{Begins, CrashLeavesAnEarlierServer, Held, live_rows}
use Rattle.nbt_serve.specs.Serving.{Turn}
use Rattle.nbt_port.specs.Memory.{DatagramValue}
use Rattle.nbt_net.specs.Wire.{Act}
use Rattle.nbt_net.specs.Servers.{ServerEnd, never_up, up, down, act_at, with_rows, ServerLives, starts, starts_anew, has_limit}
use Rattle.nbt_net.specs.Restarts.{later_act}
use Rattle.nbt_net.specs.Starts.{FindsLeft, HasNotGoneBack, ResumesLater}
use Rattle.nbt_net.specs.Turns.{acts_before, IsCutShort}
use Rattle.nbt_net.specs.Again.{kept_of, held_of, HasOwnHeader, StartBeginsARun, IsUnderWay, acts_of_start, FirstStart, NextStart}
use Rattle.nbt_net.proofs.Onwards.{serves_soon}
use Rattle.nbt_net.proofs.ServerTurns.{cut_by}
use Rattle.nbt_net.proofs.Restarts.{ServerAlike, all_later}
use Rattle.nbt_net.proofs.Rows.{starts_as, then_rows, resumes_with}
use Rattle.nbt_net.proofs.Started.{KeptResumes, FileHasOneReading, ServesPast, begins_later, begun_config}

abbrev WrittenIsKept : Type 0
WrittenIsKept = (server : ServerValue) (kept : Leases) (at : ℕ) → IsKept kept server → IsKept (after_all (begun_all at (live_rows server)) no_leases) server

-- ---- leases that were begun

all_begun_stand : (at : ℕ) (rows : Rows) (leases : Leases) → AllStand Three (begun_all at rows) leases
all_begun_stand at [] leases = tt
all_begun_stand at (row ∷ rows) leases = (tt, all_begun_stand at rows _)

no_earlier : (first : ℕ) (changes : List Change) → first ≤ last_of first changes
no_earlier first [] = omega arith
no_earlier first (change ∷ changes) = let later = no_earlier (max first (at_of change)) changes in omega (arith, later)

-- ---- a server that begins

-- What holds of one that goes on: its leases are sound, it serves soon, and its start is that of its header.
record IsGoing (f : Found) (going : Going) : Type 0 where
  pub leases : (name : NameValue) → AreApart (leases_at going.server.last going.server.table.rows name)
  pub soon : going.server.last ≤ going.reads + unseen
  pub start : going.start ≡ going.server.start
  pub config : going.server.table.config ≡ f.config

on_clock : (f : Found) (form : Form) (h : Header) (t : Times) (rows : Rows) (onward : Onward) (decided : Decided) (going : Going) → going_on form h t f.config f.seen f.silent_after_boot ≡ Ok onward → ResumesOn f h t rows onward decided → decided ≡ Goes going → IsGoing f going
on_clock f form h t rows onward _ going clock (goes_on other ahead reads start late as_kept called sound recent) is =
    let same : other ≡ going = cc in
    let serves = serves_soon form h t f.config f.seen f.silent_after_boot onward clock in
    subst (IsGoing f) same (record {
      leases = λ name. subst (λ (n : ℕ). AreApart (leases_at n other.server.table.rows name)) (sym called) (subst AreApart (sym (ap (λ (ls : Leases). ls name) as_kept.leases)) (sound name).apart);
      soon = omega (arith, serves, called, reads);
      start = start ∙ sym as_kept.start;
      config = as_kept.config;
    })
on_clock f form h t rows onward _ going clock (too_many many) is = absurd cc
on_clock f form h t rows onward _ going clock (too_old old) is = absurd cc
on_clock f form h t rows onward _ going clock (none_that_stand bad) is = absurd cc

with_loaded : (f : Found) (form : Form) (h : Header) (t : Times) (rows : Rows) (decided : Decided) (going : Going) → GoesOnWith f form h t rows decided → decided ≡ Goes going → IsGoing f going
with_loaded f form h t rows _ going (not_now why refused) is = absurd cc
with_loaded f form h t rows _ going (by_clock onward decided clock on) is = on_clock f form h t rows onward decided going clock on is

found_going : (f : Found) (decided : Decided) (going : Going) → ResumesAs f decided → decided ≡ Goes going → IsGoing f going
found_going f _ going (nothing_kept none) is = absurd cc
found_going f _ going (no_file octets fault kept bad) is = absurd cc
found_going f _ going (with_file octets form h t rows decided kept loaded goes) is = with_loaded f form h t rows decided going goes is

-- What holds of every server that begins.
record IsBegunWell (b : Begun) : Type 0 where
  pub leases : (name : NameValue) → AreApart (leases_at b.server.last b.server.table.rows name)
  pub soon : b.server.last ≤ b.header.last + unseen
  pub header : HasOwnHeader b

begun_well : (f : Found) (b : Begun) → BeginsAs f b → IsBegunWell b
begun_well f b begins = by begins.0 begins.1 begins.2
  where
    by : (decided : Decided) → ResumesAs f decided → IsBegun f decided b → IsBegunWell b
    by (Goes going) as_found g =
        let x = found_going f (Goes going) going as_found refl in
        let soon = x.soon in
        let server_is = g.server_is in
        let last : b.server.last ≡ going.server.last = ap (λ (s : ServerValue). s.last) g.server_is in
        let read : b.header.last ≡ going.reads = ap (λ (h : Header). h.last) g.header_is in
        let limits : b.server.table.config ≡ f.config = ap (λ (s : ServerValue). s.table.config) g.server_is ∙ x.config in
        record {
          leases = λ name. subst (λ (s : ServerValue). AreApart (leases_at s.last s.table.rows name)) (sym g.server_is) (x.leases name);
          soon = omega (arith, soon, last, read);
          header = record {
            life = ap (λ (h : Header). h.life) g.header_is ∙ sym (ap (λ (c : ConfigValue). c.life) limits);
            longest = ap (λ (h : Header). h.longest) g.header_is ∙ sym (ap (λ (c : ConfigValue). c.longest) limits);
            rows = ap (λ (h : Header). h.rows) g.header_is ∙ sym (ap (λ (c : ConfigValue). c.rows) limits);
            start = ap (λ (h : Header). h.start) g.header_is ∙ (x.start ∙ sym (ap (λ (s : ServerValue). s.start) g.server_is));
            last = read ∙ sym g.reads_is;
          };
        }
    by (Silent reason) as_found g =
        let started = g.starts.last in
        let read : b.header.last ≡ f.seen.monotonic = ap (λ (h : Header). h.last) g.header_is in
        let limits = g.starts.config_is in
        record {
          leases = λ name. subst AreApart (sym (ap (λ (rows : Rows). leases_at b.server.last rows name) g.starts.empty ∙ none_live b.server.last name)) tt;
          soon = omega (arith, started, read);
          header = record {
            life = ap (λ (h : Header). h.life) g.header_is ∙ sym (ap (λ (c : ConfigValue). c.life) limits);
            longest = ap (λ (h : Header). h.longest) g.header_is ∙ sym (ap (λ (c : ConfigValue). c.longest) limits);
            rows = ap (λ (h : Header). h.rows) g.header_is ∙ sym (ap (λ (c : ConfigValue). c.rows) limits);
            start = ap (λ (h : Header). h.start) g.header_is ∙ sym g.starts.start;
            last = read ∙ sym g.reads_is;
          };
        }

-- its live leases are kept
own_kept : (b : Begun) → IsBegunWell b → IsKept (leases_at b.server.last b.server.table.rows) b.server
own_kept b well = record { apart = well.leases; live = λ name. sym (later_is b.server.last b.server.last b.server.table.rows name (omega arith)) }

begins_run : WrittenIsKept → (b : Begun) (rows : Option ℕ) → IsBegunWell b → Begins (kept_of b) b.header.last (held_of rows b)
begins_run law b rows well = record {
  leases = let kept = law b.server (leases_at b.server.last b.server.table.rows) b.header.last (own_kept b well) in record { apart = kept.apart; live = kept.live };
  stand = all_begun_stand b.header.last (live_rows b.server) no_leases;
  all = refl;
  alone = refl;
  clear = refl;
  durable = no_earlier b.header.last (begun_all b.header.last (live_rows b.server));
  soon = well.soon;
}

pub start_begins_a_run : WrittenIsKept → StartBeginsARun
start_begins_a_run law f b rows begins = let well = begun_well f b begins in (begins_run law b rows well, well.header)

-- ---- lives, one after another

module _ (law : WrittenIsKept) (config : ConfigValue) where
  -- from a server that is down, or never was up
  under_way : (f : Found) (b : Begun) (rows : Option ℕ) (acts : List Act) (before : ServerEnd) → BeginsAs f b → f.config.life ≡ config.life → f.config.longest ≡ config.longest → Chain (ServerLives config) never_up acts before
      → (clients : Option ℕ) → Chain (ServerLives config) before (act_at b.server.last ∷ act_at b.server.last ∷ []) (up (limited clients b.server)) → IsUnderWay config (acts ++ acts_of_start b) (kept_of b) b.header.last (held_of rows b)
  under_way f b rows acts before begins life longest so_far clients begun = record {
    lives = chain-append (ServerLives config) never_up before (up (limited rows b.server)) acts (acts_of_start b) so_far
        (chain_on (ServerLives config) before (up (limited clients b.server)) (up (limited rows b.server)) (act_at b.server.last ∷ act_at b.server.last ∷ []) (act_at b.server.last) begun (has_limit b.server.last rows (limited clients b.server)));
    begins = begins_run law b rows (begun_well f b begins);
    life_is = ap (λ (c : ConfigValue). c.life) (begun_config f b begins) ∙ life;
    longest_is = ap (λ (c : ConfigValue). c.longest) (begun_config f b begins) ∙ longest;
  }

anew : {f : Found} {b : Begun} {reason : Reason} → BeginsAs f b → b.reason ≡ Some reason → BeginsAnew f reason b
anew {f} {b} {reason} begins is = by begins.0 begins.2
  where
    by : (decided : Decided) → IsBegun f decided b → BeginsAnew f reason b
    by (Goes going) g = let none = g.no_reason in absurd cc
    by (Silent other) g = let own = g.reason_is in let same : other ≡ reason = cc in subst (λ (r : Reason). BeginsAnew f r b) same g

started_so : (config : ConfigValue) (f : Found) (b : Begun) (reason : Reason) → f.config.life ≡ config.life → f.config.longest ≡ config.longest → BeginsAnew f reason b → ServerStarts config b.server.last (with_rows config.rows b.server)
started_so config f b reason life longest g = starts_as config f.config b.server.last b.server life longest (subst (λ (n : ℕ). ServerStarts f.config n b.server) (sym g.starts.last) g.starts)

pub first_start : WrittenIsKept → FirstStart
first_start law config f b rows reason limits begins why =
    let life = ap (λ (c : ConfigValue). c.life) limits in
    let longest = ap (λ (c : ConfigValue). c.longest) limits in
    under_way law config f b rows [] never_up begins life longest refl b.server.client_rows
    (then_rows config b.server.last config.rows never_up b.server (starts b.server.last (with_rows config.rows b.server) (started_so config f b reason life longest (anew begins why))))

-- the laws below, of a start
pub record StartLaws : Type 0 where
  pub written : WrittenIsKept
  pub crash : CrashLeavesAnEarlierServer
  pub resumes : KeptResumes
  pub one : FileHasOneReading
  pub past : ServesPast
  pub alike : ServerAlike

module _ (l : StartLaws) (config : ConfigValue) (acts : List Act) (kept : Kept) (last : ℕ) (old : Held) (way : IsUnderWay config acts kept last old) (limits : IsConfig config) {turns : List Turn} {gone : List DatagramValue} {until : ℕ} {left : List Change}
    (cut : IsCutShort config old.server turns gone until left) (at : ℕ) (f : Found) (b : Begun) (rows : Option ℕ) (begins : BeginsAs f b) where
  abbrev so_far : List Act
  so_far = acts ++ (acts_before cut.earlier ++ act_at at ∷ [])

  lived_so_far : Chain (ServerLives config) never_up so_far (down cut.earlier.server)
  lived_so_far = chain-append (ServerLives config) never_up (up old.server) (down cut.earlier.server) acts (acts_before cut.earlier ++ act_at at ∷ []) way.lives (cut.lives at)

  goes_on_again : (found : FindsLeft old.server until left f) → b.reason ≡ None → HasNotGoneBack found cut.earlier.server b
      → (later : ResumesLater cut.earlier.server until left f b) × IsUnderWay config (map (later_act later.shift) so_far ++ acts_of_start b) (kept_of b) b.header.last (held_of rows b)
  goes_on_again found none steady =
      let later = begins_later l.resumes l.one l.past l.alike.tells old.server turns gone until left (subst IsLongest (sym way.longest_is) limits.longest) f b found cut.earlier steady begins.0 begins.1 begins.2 none in (
        later,
        under_way l.written config f b rows (map (later_act later.shift) so_far) (down (shifted_server later.shift cut.earlier.server)) begins (found.life_is ∙ way.life_is) (found.longest_is ∙ way.longest_is)
            (all_later l.alike config later.shift so_far never_up (down cut.earlier.server) lived_so_far) cut.earlier.server.client_rows
            (resumes_with config b.server.last f.config.rows (shifted_server later.shift cut.earlier.server) (limited cut.earlier.server.client_rows b.server) later.resumes),
      )

  begins_anew : (reason : Reason) → f.config.life ≡ config.life → f.config.longest ≡ config.longest → b.reason ≡ Some reason → IsUnderWay config (so_far ++ acts_of_start b) (kept_of b) b.header.last (held_of rows b)
  begins_anew reason life longest why =
      under_way l.written config f b rows so_far (down cut.earlier.server) begins life longest lived_so_far b.server.client_rows
      (then_rows config b.server.last config.rows (down cut.earlier.server) b.server
      (starts_anew b.server.last cut.earlier.server (with_rows config.rows b.server) (started_so config f b reason life longest (anew begins why))))

pub next_start : StartLaws → NextStart
next_start l config acts kept last old new seen way runs limits before behind left calls_are may =
    let cut = cut_by config old.server (l.crash kept last old new seen way.begins runs before behind left calls_are may) in
    (cut, λ at f b rows begins. (goes_on_again l config acts kept last old way limits cut at f b rows begins, begins_anew l config acts kept last old way limits cut at f b rows begins))
