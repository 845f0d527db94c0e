-- A start that goes on with what a crash left.
use Rattle.std.proofs.Common.{◌≡◌, ◌∙◌, ℕ, ◌+◌, ◌-◌, ◌≤◌, List, [], ◌∷◌, map, None, Ok, refl, sym, ap, subst, arith, ◌++◌}
use Rattle.std.specs.Borrow.{Bor}
use Rattle.nbt_lease.specs.Config.{ConfigValue, IsLongest, last_moment}
use Rattle.nbt_lease.specs.Lease.{Leases, Rows, is_live, leases_at, latest_end, IsSound}
use Rattle.nbt_lease.specs.declared.lease.Lease.{Lease}
use Rattle.nbt_lease.proofs.Common.{filter, AllByRecursion, NameValue}
use Rattle.nbt_port.specs.PortCalls.{Chain}
use Rattle.nbt_server.specs.Calls.{ServerResumes, kept_server, limited}
use Rattle.nbt_server.specs.Serving.{ServerValue}
use Rattle.nbt_server.specs.Shifted.{TellsAlike, shifted_lease, shifted_leases, shifted_server}
use Rattle.nbt_store.specs.Changes.{after_all, last_of, no_leases}
use Rattle.nbt_store.specs.Lines.{IsFile}
use Rattle.nbt_store.specs.Loading.{AreRowsOf}
use Rattle.nbt_store.specs.Silence.{by_new_clock, going_on, unseen}
use Rattle.nbt_store.specs.Times.{first_times, times_after_all}
use Rattle.nbt_store.specs.declared.change.Change.{Change}
use Rattle.nbt_store.specs.declared.form.Form.{Form}
use Rattle.nbt_store.specs.declared.form.Form.TheVariants.{Three}
use Rattle.nbt_store.specs.declared.header.Header.{Header}
use Rattle.nbt_store.specs.declared.silence.Onward.{Onward}
use Rattle.nbt_store.specs.declared.silence.Seen.{Seen}
use Rattle.nbt_store.specs.declared.times.Times.{Times}
use Rattle.nbt_serve.specs.Serving.{Turn, Turns, passes, takes, goes_back, has_no_memory}
use Rattle.nbt_port.specs.Memory.{DatagramValue}
use Rattle.nbt_serve.specs.Changing.{IsKept}
use Rattle.nbt_serve.specs.Runs.{CrashLeavesAnEarlierServer, IsEarlier, gone_in, last_left, turns_in}
use Rattle.nbt_store.specs.Beginning.{BeginsAs, IsBegun, GoesOn}
use Rattle.nbt_store.specs.Resuming.{GoesOnWith, ResumesAs, ResumesOn, later_rows, goes_on, too_many, too_old, none_that_stand, not_now, by_clock, nothing_kept, no_file, with_file}
use Rattle.nbt_store.specs.declared.beginning.Begun.{Begun}
use Rattle.nbt_store.specs.declared.resuming.Decided.{Decided}
use Rattle.nbt_store.specs.declared.resuming.Decided.TheVariants.{Goes, Silent}
use Rattle.nbt_store.specs.declared.resuming.Found.{Found}
use Rattle.nbt_store.specs.declared.resuming.Going.{Going}
use Rattle.nbt_net.specs.Servers.{with_rows}
use Rattle.nbt_net.specs.Starts.{FindsLeft, HasNotGoneBack, ResumesLater, StartResumesAnEarlierServer}
use Rattle.nbt_net.proofs.Later.{apart_later, later_lease, live_later, none_capped, rows_capped}
use Rattle.nbt_net.proofs.Onwards.{is_clock, times_last}
use Rattle.nbt_net.proofs.Rows.{same_but_rows}

-- ---- the laws below

abbrev pub KeptResumes : Type 0
KeptResumes = (was server : ServerValue) (kept : Leases) (rows : Rows) (last now : ℕ) → IsKept kept was → was.last ≤ now → ((name : NameValue) → leases_at now rows name ≡ filter (is_live now) (kept name))
    → ServerResumes (kept_server was.table.config was.start last rows) now server → ServerResumes was now (limited was.client_rows server)

abbrev pub FileHasOneReading : Type 0
FileHasOneReading = (octets : List ℕ) (form other : Form) (h g : Header) (cs ds : List Change) (last end : ℕ) → IsFile octets form h cs last → IsFile octets other g ds end → (form ≡ other) × (h ≡ g) × (cs ≡ ds) × (last ≡ end)

abbrev pub ServesPast : Type 0
ServesPast = (h : Header) (times : Times) (seen : Seen) (was : ℕ) → was ≤ times.last + unseen → was + (by_new_clock h times seen).shift ≤ (by_new_clock h times seen).serves

abbrev pub ShiftedTells : Type 0
ShiftedTells = (more : ℕ) (server : ServerValue) (now : ℕ) → TellsAlike more server now

-- ---- turns keep a server's start and its limits

pub turn_keeps : (old : ServerValue) (turn : Turn) (new : ServerValue) → Turns old turn new → (new.start ≡ old.start) × (new.table.config ≡ old.table.config)
turn_keeps old _ _ passes = (refl, refl)
turn_keeps old _ _ (takes now from octets reply new does) = (does.start, does.config)
turn_keeps old _ _ (goes_back now from octets early) = (refl, refl)
turn_keeps old _ _ (has_no_memory now from octets new forgets) = (forgets.start, forgets.config)

turns_keep : (turns : List Turn) (old new : ServerValue) → Chain Turns old turns new → (new.start ≡ old.start) × (new.table.config ≡ old.table.config)
turns_keep [] old new is = (ap (λ (s : ServerValue). s.start) is, ap (λ (s : ServerValue). s.table.config) is)
turns_keep (turn ∷ turns) old new run =
    let first = turn_keeps old turn run.0 run.1 in
    let rest = turns_keep turns run.0 new run.2 in
    (rest.0 ∙ first.0, rest.1 ∙ first.1)

-- ---- a server that resumes with rows whose leases end later

resumes_later : KeptResumes → ShiftedTells → (was server : ServerValue) (kept : Leases) (rows : Rows) (config : ConfigValue) (start last by m : ℕ) → IsKept kept was → AreRowsOf rows kept → config.life ≡ was.table.config.life → config.longest ≡ was.table.config.longest → start ≡ was.start → IsLongest config.longest
    → was.last + by ≤ m + by → m + by ≤ last_moment → ServerResumes (kept_server config (start + by) last (later_rows by rows)) (m + by) server → IsSound config (m + by) (leases_at (m + by) (later_rows by rows))
    → ServerResumes (with_rows config.rows (shifted_server by was)) (m + by) (limited was.client_rows server)
resumes_later law alike was server kept rows config start last by m k rows_are life same begun limits onward told resumes sound =
    law (with_rows config.rows (shifted_server by was)) server (shifted_leases by kept) (later_rows by rows) last (m + by) kept_later onward named resumes_so
  where
    kept_later : IsKept (shifted_leases by kept) (with_rows config.rows (shifted_server by was))
    kept_later = record {
      apart = λ name. apart_later by (kept name) (k.apart name);
      live = λ name. live_later by was.last (kept name) ∙ ap (map (shifted_lease by)) (k.live name) ∙ sym (ap (λ (f : Leases). f name) (alike by was was.last).leases);
    }

    named : (name : NameValue) → leases_at (m + by) (later_rows by rows) name ≡ filter (is_live (m + by)) (shifted_leases by kept name)
    named name =
        let capped : leases_at (m + by) (later_rows by rows) name ≡ map (later_lease by) (filter (is_live m) (kept name)) = rows_capped by m rows name (omega (arith, told)) ∙ ap (map (later_lease by)) (rows_are m name) in
        let in_time = subst (λ (ls : List Lease). AllByRecursion (λ lease. lease.end ≤ latest_end config (m + by)) ls) capped (sound name).in_time in
        let longest = limits.1 in
        capped ∙ none_capped by (latest_end config (m + by)) (filter (is_live m) (kept name)) (omega (arith, told, longest)) in_time ∙ sym (live_later by m (kept name))

    -- the limits of what was found, which has its own rows
    limits_are : config ≡ record was.table.config { rows = config.rows }
    limits_are = sym (same_but_rows was.table.config config (sym life) (sym same))

    resumes_so : ServerResumes (kept_server (record was.table.config { rows = config.rows }) (was.start + by) last (later_rows by rows)) (m + by) server
    resumes_so =
        subst (λ (x : ConfigValue). ServerResumes (kept_server x (was.start + by) last (later_rows by rows)) (m + by) server) limits_are (subst (λ (n : ℕ). ServerResumes (kept_server config (n + by) last (later_rows by rows)) (m + by) server) begun resumes)

-- ---- what was decided

-- the server goes on by this clock
record GoesBy (f : Found) (h : Header) (t : Times) (rows : Rows) (going : Going) : Type 0 where
  pub onward : Onward
  pub clock : going_on Three h t f.config f.seen f.silent_after_boot ≡ Ok onward
  pub ahead : going.ahead ≡ onward.ahead
  pub reads : going.reads ≡ onward.reads
  pub resumes : ServerResumes (kept_server f.config (h.start + onward.shift) (t.last + onward.shift) (later_rows onward.shift rows)) onward.serves going.server
  pub called : going.server.last ≡ onward.serves
  pub sound : IsSound f.config onward.serves (leases_at onward.serves (later_rows onward.shift rows))

on_clock : (f : Found) (h : Header) (t : Times) (rows : Rows) (onward : Onward) (decided : Decided) (going : Going) → going_on Three h t f.config f.seen f.silent_after_boot ≡ Ok onward → ResumesOn f h t rows onward decided → decided ≡ Goes going → GoesBy f h t rows going
on_clock f h t rows onward _ going clock (goes_on other ahead reads start late resumes called sound recent) is =
    let same : other ≡ going = cc in
    subst (GoesBy f h t rows) same (record { onward = onward; clock = clock; ahead = ahead; reads = reads; resumes = resumes; called = called; sound = sound })
on_clock f h t rows onward _ going clock (too_many many) is = absurd cc
on_clock f h t rows onward _ going clock (too_old old) is = absurd cc
on_clock f h t rows onward _ going clock (none_that_stand bad) is = absurd cc

with_loaded : (f : Found) (h : Header) (t : Times) (rows : Rows) (decided : Decided) (going : Going) → GoesOnWith f Three h t rows decided → decided ≡ Goes going → GoesBy f h t rows going
with_loaded f h t rows _ going (not_now why refused) is = absurd cc
with_loaded f h t rows _ going (by_clock onward decided clock on) is = on_clock f h t rows onward decided going clock on is

-- a server that begins has the limits of what was found
decided_config : (f : Found) (h : Header) (t : Times) (rows : Rows) (onward : Onward) (decided : Decided) (going : Going) → ResumesOn f h t rows onward decided → decided ≡ Goes going → going.server.table.config ≡ f.config
decided_config f h t rows onward _ going (goes_on other ahead reads start late resumes called sound recent) is = let same : other ≡ going = cc in subst (λ (g : Going). g.server.table.config ≡ f.config) same resumes.config
decided_config f h t rows onward _ going (too_many many) is = absurd cc
decided_config f h t rows onward _ going (too_old old) is = absurd cc
decided_config f h t rows onward _ going (none_that_stand bad) is = absurd cc

loaded_config : (f : Found) (form : Form) (h : Header) (t : Times) (rows : Rows) (decided : Decided) (going : Going) → GoesOnWith f form h t rows decided → decided ≡ Goes going → going.server.table.config ≡ f.config
loaded_config f form h t rows _ going (not_now why refused) is = absurd cc
loaded_config f form h t rows _ going (by_clock onward decided clock on) is = decided_config f h t rows onward decided going on is

found_config : (f : Found) (decided : Decided) (going : Going) → ResumesAs f decided → decided ≡ Goes going → going.server.table.config ≡ f.config
found_config f _ going (nothing_kept none) is = absurd cc
found_config f _ going (no_file octets fault kept bad) is = absurd cc
found_config f _ going (with_file octets form h t rows decided kept loaded goes) is = loaded_config f form h t rows decided going goes is

pub begun_config : (f : Found) (b : Begun) → BeginsAs f b → b.server.table.config ≡ f.config
begun_config f b begins = by begins.0 begins.1 begins.2
  where
    by : (decided : Decided) → ResumesAs f decided → IsBegun f decided b → b.server.table.config ≡ f.config
    by (Goes going) as_found g = ap (λ (s : ServerValue). s.table.config) g.server_is ∙ found_config f (Goes going) going as_found refl
    by (Silent reason) as_found g = g.starts.config_is

-- what was loaded is what a crash left
record LoadsLeft (f : Found) (h : Header) (left : List Change) (going : Going) : Type 0 where
  pub rows : Rows
  pub rows_are : AreRowsOf rows (after_all left no_leases)
  pub goes : GoesBy f h (times_after_all left (first_times h)) rows going

loads_left : FileHasOneReading → (ran : ServerValue) (last : ℕ) (left : List Change) (f : Found) (found : FindsLeft ran last left f) (decided : Decided) (going : Going) → ResumesAs f decided → decided ≡ Goes going → LoadsLeft f found.header left going
loads_left one ran last left f found _ going (nothing_kept none) is = absurd cc
loads_left one ran last left f found _ going (no_file octets fault kept bad) is = absurd cc
loads_left one ran last left f found _ going (with_file octets form h t rows decided kept loaded goes) is =
    let there = found.kept in
    let same : found.octets ≡ octets = cc in
    let file : IsFile octets.now Three found.header left found.end = subst (λ (o : Bor (List ℕ)). IsFile o.now Three found.header left found.end) same found.file in
    let reading = one octets.now form Three h found.header loaded.changes left loaded.last found.end loaded.file file in
    let times : t ≡ times_after_all left (first_times found.header) =
    loaded.times_are ∙ ap (λ (cs : List Change). times_after_all cs (first_times h)) reading.2 ∙ ap (λ (x : Header). times_after_all left (first_times x)) reading.1 in
    let goes_so : GoesOnWith f Three found.header (times_after_all left (first_times found.header)) rows decided =
    subst (λ (x : Times). GoesOnWith f Three found.header x rows decided) times (subst (λ (x : Header). GoesOnWith f Three x t rows decided) reading.1 (subst (λ (x : Form). GoesOnWith f x h t rows decided) reading.0 goes)) in
    record {
      rows = rows;
      rows_are = subst (λ (cs : List Change). AreRowsOf rows (after_all cs no_leases)) reading.2 loaded.rows_are;
      goes = with_loaded f found.header (times_after_all left (first_times found.header)) rows decided going goes_so is;
    }

-- ---- the server that begins

module _ (kept_resumes : KeptResumes) (one : FileHasOneReading) (serves_past : ServesPast) (alike : ShiftedTells) (ran : ServerValue) (turns : List Turn) (gone : List DatagramValue) (last : ℕ) (left : List Change) (limits : IsLongest ran.table.config.longest)
    (f : Found) (b : Begun) (found : FindsLeft ran last left f) (e : IsEarlier ran turns gone last left) (steady : HasNotGoneBack found e.server b) where
  goes_later : (going : Going) → GoesOn f going b → LoadsLeft f found.header left going → ResumesLater e.server last left f b
  goes_later going g loads =
      let h = found.header in
      let t = times_after_all left (first_times found.header) in
      let o = loads.goes.onward in
      let until : t.last ≡ last_of last left = times_last left (first_times h) ∙ ap (λ (n : ℕ). last_of n left) found.last_is in
      let soon = e.soon in
      let served : e.server.last ≤ t.last + unseen = omega (arith, soon, until) in
      let serves : b.server.last ≡ o.serves = ap (λ (s : ServerValue). s.last) g.server_is ∙ loads.goes.called in
      let reads : b.reads ≡ o.reads = g.reads_is ∙ loads.goes.reads in
      let clock = is_clock h t f.config f.seen f.silent_after_boot o e.server.last serves_past loads.goes.clock served (λ same. subst (λ (n : ℕ). e.server.last ≤ n) serves (steady same)) in
      let shift = clock.0.shift in
      let m = o.serves - o.shift in
      let whole : m + o.shift ≡ o.serves = omega (arith, shift) in
      let past = clock.1 in
      let told = clock.0.told in
      let same = turns_keep (e.front ++ e.asked) ran e.server e.run in
      let resumed =
      resumes_later kept_resumes alike e.server going.server (after_all left no_leases) loads.rows f.config h.start (t.last + o.shift) o.shift m e.leases loads.rows_are (found.life_is ∙ sym (ap (λ (c : ConfigValue). c.life) same.1)) (found.longest_is ∙ sym (ap (λ (c : ConfigValue). c.longest) same.1))
      (found.start_is ∙ sym same.0) (subst IsLongest (sym found.longest_is) limits)
      (omega (arith, past, whole)) (omega (arith, told, whole))
      (subst (λ (n : ℕ). ServerResumes (kept_server f.config (h.start + o.shift) (t.last + o.shift) (later_rows o.shift loads.rows)) n going.server) (sym whole) loads.goes.resumes)
      (subst (λ (n : ℕ). IsSound f.config n (leases_at n (later_rows o.shift loads.rows))) (sym whole) loads.goes.sound) in
      let later = clock.0.later in
      let late = clock.0.serves in
      record {
        shift = o.shift;
        resumes = subst (λ (s : ServerValue). ServerResumes (with_rows f.config.rows (shifted_server o.shift e.server)) b.server.last (limited e.server.client_rows s)) (sym g.server_is)
            (subst (λ (n : ℕ). ServerResumes (with_rows f.config.rows (shifted_server o.shift e.server)) n (limited e.server.client_rows going.server)) (whole ∙ sym serves) resumed);
        onward = omega (arith, later, until, reads);
        machine = reads ∙ clock.0.machine ∙ ap (λ (n : ℕ). f.seen.monotonic + n) (sym loads.goes.ahead ∙ sym (ap (λ (x : Header). x.ahead) g.header_is));
        serves = omega (arith, late, reads, serves);
      }

  pub begins_later : (decided : Decided) → ResumesAs f decided → IsBegun f decided b → b.reason ≡ None → ResumesLater e.server last left f b
  begins_later (Goes going) as_found g none = goes_later going g (loads_left one ran last left f found (Goes going) going as_found refl)
  begins_later (Silent reason) as_found g none = let other = g.reason_is in absurd cc

pub started : CrashLeavesAnEarlierServer → KeptResumes → FileHasOneReading → ServesPast → ShiftedTells → StartResumesAnEarlierServer
started crash kept_resumes one serves_past alike kept last old new seen begins runs limits before behind left split may f b found begun none =
    let e = crash kept last old new seen begins runs before behind left split may in
    (e, λ steady. begins_later kept_resumes one serves_past alike old.server (turns_in seen) (gone_in before) (last_left last may) left limits.longest f b found e steady begun.0 begun.1 begun.2 none)
