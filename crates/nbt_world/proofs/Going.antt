-- What each step makes of the clocks, and so what a run does: told where the bound is kept, and where no event moves the
-- clocks apart, in step, and kept until a clock stops.
use Rattle.std.proofs.Common.{◌≡◌, ℕ, zero, suc, ◌+◌, ◌-◌, ◌*◌, ◌^◌, ◌<◌, ◌≤◌, List, [], ◌∷◌, ◌++◌, length, take, get_or, Some, refl, sym, subst, ◌∙◌, arith}
use Rattle.std.specs.Prelude.{IsTrue, All, min, slice_index}
use Rattle.std.proofs.lemmas.List.{take_more, take_all}
use Rattle.std.proofs.lemmas.List.Elements.{All-push, All-nil, All-cons, All-head, All-tail}
use Rattle.nbt_name.specs.declared.addr.Addr.{Addr}
use Rattle.nbt_lease.specs.Config.{ConfigValue}
use Rattle.nbt_node.specs.Node.{NodeValue}
use Rattle.std.specs.Prelude.{Option, None}
use Rattle.nbt_world.specs.declared.clocks.Least.{Least}
use Rattle.nbt_world.specs.declared.ends.Ends.{Ends}
use Rattle.nbt_packet.specs.Text.{text}
use Rattle.nbt_world.specs.declared.network.Datagram.{Datagram}
use Rattle.nbt_world.specs.declared.event.Event.{Event}
use Rattle.nbt_world.specs.declared.event.Outcome.{Outcome}
use Rattle.nbt_world.specs.Drift.{reading, later, least_of, numbers_of, lesser, IsAllowed, IsAllowedTimely, IsBounded, IsTimely}
use Rattle.nbt_world.specs.World.{WorldValue, IsEnd, addr_of, with_node, datagram}
use Rattle.nbt_world.specs.Step.{Advances, Step, ticks, advances, starts, starts_nothing, crashes, crashes_nothing, resumes, resumes_nothing, node_does, node_is_down, no_datagram, no_end, too_late, delivered, from_an_end, to_no_end, from_a_stranger, beside_no_end, beside_moves, beside_to_no_end, from_beside, CallOutcomeValue, nothing, refusal, octets_to, after, TakenValue, is_down, is_lost, takes, EndTakes, finds_down, by_server, by_node, after_taking, Starts, server_starts, node_starts, Crashes, server_crashes, node_crashes, Resumes, server_resumes}
use Rattle.nbt_world.specs.Inner.Kept.{AreRead}
use Rattle.nbt_world.specs.Safety.{IsSafe, AreSafeWhileKept, AreSafeWhileTimely, RunsSafely}
use Rattle.nbt_world.specs.Clocks.{AreSafe, IsInStep, LetsClocksDrift, MoveClocksAlike, NoClockStopped, AreKeptUntilClocksStop, RunsByClocks}
use Rattle.nbt_world.proofs.Keeping.{addr_with, server_addr_with, read_with}
use Rattle.nbt_world.proofs.Clock.{sees, read_on, goes_up}
use Rattle.nbt_world.proofs.Exact.{Goes, Traced, traced_more, traced_first, Told, told_more, told_first, told_fresh, drift_bound, timely_bound}

-- ---- the clocks go on

pub goes_on : {w v : WorldValue} {ms : ℕ} {moves : ℕ → ℕ} → Advances w ms moves v → AreRead w → Goes w v
goes_on {w} {ms = ms} adv read = subst (λ (x : WorldValue). Goes w x) (sym adv.others) (record {
  clock = rw adv.now (goes_up w.now.clock ms read.now);
  read = read_on adv read;
  seen = sees adv read;
  least = adv.least;
  kept = adv.kept;
  timely = adv.timely;
  same = λ n. refl;
})

-- ---- they stay

no_lesser : (a b : Least) → a.ahead ≤ b.ahead → a.behind ≤ b.behind → a ≡ lesser a b
no_lesser a b x y =
    let p : a.ahead ≡ min a.ahead b.ahead = omega arith in
    let q : a.behind ≡ min a.behind b.behind = omega arith in
    λ i. record { ahead = p i; behind = q i }

-- only ends and datagrams are others
pub goes_with : (w : WorldValue) (ends : Ends) (sent : List Datagram) → ((n : ℕ) → addr_of ends n ≡ addr_of w.ends n) → AreRead w → Goes w (record w { ends = ends; sent = sent })
goes_with w ends sent same read = record {
  clock = omega arith;
  read = read_with w ends sent same read;
  seen = λ n e moment seen. seen;
  least = λ n e. let s = read.seen n e in no_lesser (least_of w.least n) (numbers_of w.now n) s.least_ahead s.least_behind;
  kept = (λ on. (on, read.allowed on), λ on. on.0);
  timely = (λ on. (on, read.allowed_timely on), λ on. on.0);
  same = same;
}

with_same : (ends : Ends) (n : ℕ) (x : Option NodeValue) (k : ℕ) → addr_of (with_node ends n x) k ≡ addr_of ends k
with_same ends zero x k = refl
with_same ends (suc i) x k = addr_with ends i x k

starts_same : {config : ConfigValue} {now number : ℕ} {old new : Ends} → Starts config now old number new → (n : ℕ) → addr_of new n ≡ addr_of old n
starts_same {old = old} (server_starts server down is) n = server_addr_with old (Some server) None n
starts_same {old = old} (node_starts index addr at down) n = addr_with old index _ n

crashes_same : {number : ℕ} {old new : Ends} → Crashes old number new → (n : ℕ) → addr_of new n ≡ addr_of old n
crashes_same {old = old} (server_crashes server up) n = server_addr_with old None (Some server) n
crashes_same {old = old} (node_crashes index node up) n = addr_with old index None n

resumes_same : {now : ℕ} {old new : Ends} → Resumes now old new → (n : ℕ) → addr_of new n ≡ addr_of old n
resumes_same {old = old} (server_resumes kept server down is goes_on) n = server_addr_with old (Some server) None n

takes_same : {now number : ℕ} {from : Addr} {octets : List ℕ} {taken : TakenValue} {old new : Ends} → EndTakes now old from octets number taken new → (n : ℕ) → addr_of new n ≡ addr_of old n
takes_same (finds_down k down) n = refl
takes_same {old = old} (by_server server s t up does) n = server_addr_with old (Some s) old.crashed n
takes_same {old = old} (by_node index node s reply up hears) n = addr_with old index (Some s) n

-- What an event makes of the clocks: all go on alike, each goes on by its own milliseconds, or they stay, and only ends and
-- datagrams are others.
data Passes (w : WorldValue) (event : Event) : WorldValue → Type 0 where
  clocks_alike : (ms : ℕ) (v : WorldValue) → Advances w ms (λ n. ms) v → Passes w event v
  clocks_apart : (ms : ℕ) (moves : ℕ → ℕ) (v : WorldValue) → LetsClocksDrift event → Advances w ms moves v → Passes w event v
  clocks_stay : (ends : Ends) (sent : List Datagram) → ((n : ℕ) → addr_of ends n ≡ addr_of w.ends n) → Passes w event (record w { ends = ends; sent = sent })

nothing_passes : (w : WorldValue) {event : Event} → Passes w event w
nothing_passes w = clocks_stay w.ends w.sent (λ n. refl)

after_passes : (w : WorldValue) (number : ℕ) (new : NodeValue) (given : CallOutcomeValue) {event : Event} → Passes w event (after w number new given)
after_passes w number new nothing = clocks_stay (with_node w.ends number (Some new)) w.sent (with_same w.ends number (Some new))
after_passes w number new (refusal fault) = clocks_stay (with_node w.ends number (Some new)) w.sent (with_same w.ends number (Some new))
after_passes w number new (octets_to to octets) = clocks_stay (with_node w.ends number (Some new)) (w.sent ++ datagram new.addr to w.now octets ∷ []) (with_same w.ends number (Some new))

taking_passes : (w : WorldValue) (ends : Ends) (from to : Addr) (taken : TakenValue) {event : Event} → ((n : ℕ) → addr_of ends n ≡ addr_of w.ends n) → Passes w event (after_taking w ends from to taken)
taking_passes w ends from to is_down same = clocks_stay ends w.sent same
taking_passes w ends from to is_lost same = clocks_stay ends w.sent same
taking_passes w ends from to (takes None) same = clocks_stay ends w.sent same
taking_passes w ends from to (takes (Some reply)) same = clocks_stay ends (w.sent ++ datagram from to w.now (text reply) ∷ []) same

step_passes : {w v : WorldValue} {event : Event} {outcome : Outcome} → Step w event outcome v → Passes w event v
step_passes (ticks ms new adv) = clocks_alike ms new adv
step_passes (advances ms readings new adv) = clocks_apart ms (slice_index readings) new tt adv
step_passes {w} (starts number ends s) = clocks_stay ends w.sent (starts_same s)
step_passes {w} (starts_nothing number off) = nothing_passes w
step_passes {w} (crashes number ends s) = clocks_stay ends w.sent (crashes_same s)
step_passes {w} (crashes_nothing number off) = nothing_passes w
step_passes {w} (resumes ends s) = clocks_stay ends w.sent (resumes_same s)
step_passes {w} (resumes_nothing off) = nothing_passes w
step_passes {w} (node_does e number node new given own up does) = after_passes w number new given
step_passes {w} (node_is_down e number own down) = nothing_passes w
step_passes {w} (no_datagram k none) = nothing_passes w
step_passes {w} (no_end k d is off) = nothing_passes w
step_passes {w} (too_late k d number is at late) = nothing_passes w
step_passes {w} (delivered k d number taken ends is at in_time t) = taking_passes w ends d.to d.from taken (takes_same t)
step_passes {w} (from_an_end from number octets is) = nothing_passes w
step_passes {w} (to_no_end from number octets none) = nothing_passes w
step_passes {w} (from_a_stranger from addr number octets taken ends off at t) = taking_passes w ends addr from taken (takes_same t)
step_passes {w} (beside_no_end from number octets off) = nothing_passes w
step_passes {w} (beside_moves from number octets is) = nothing_passes w
step_passes {w} (beside_to_no_end from number octets none) = nothing_passes w
step_passes {w} (from_beside from addr number octets taken ends is off at t) = taking_passes w ends addr from taken (takes_same t)

passes_goes : {w v : WorldValue} {event : Event} → Passes w event v → AreRead w → Goes w v
passes_goes (clocks_alike ms v adv) read = goes_on adv read
passes_goes (clocks_apart ms moves v may adv) read = goes_on adv read
passes_goes {w} (clocks_stay ends sent same) read = goes_with w ends sent same read

-- ---- clocks that move alike

-- What stays so where all clocks move alike, and where only ends and datagrams are others.
record StaysAlike (P : WorldValue → Type 0) : Type 0 where
  ticks : (w v : WorldValue) (ms : ℕ) → Advances w ms (λ n. ms) v → AreRead w → P w → P v
  others : (w : WorldValue) (ends : Ends) (sent : List Datagram) → ((n : ℕ) → addr_of ends n ≡ addr_of w.ends n) → P w → P (record w { ends = ends; sent = sent })

passes_alike : {P : WorldValue → Type 0} → StaysAlike P → {w v : WorldValue} {event : Event} → Passes w event v → AreRead w → (LetsClocksDrift event → ⊥) → P w → P v
passes_alike all {w} (clocks_alike ms v adv) read one is = all.ticks w v ms adv read is
passes_alike all (clocks_apart ms moves v may adv) read one is = absurd (one may)
passes_alike all {w} (clocks_stay ends sent same) read one is = all.others w ends sent same is

-- an end that is there afterwards was there before
was_end : {w v : WorldValue} {ms : ℕ} {moves : ℕ → ℕ} → Advances w ms moves v → (n : ℕ) → IsEnd v.ends n → IsEnd w.ends n
was_end adv n e = subst (λ (x : WorldValue). IsEnd x.ends n) adv.others e

is_end : {w v : WorldValue} {ms : ℕ} {moves : ℕ → ℕ} → Advances w ms moves v → (n : ℕ) → IsEnd w.ends n → IsEnd v.ends n
is_end adv n e = subst (λ (x : WorldValue). IsEnd x.ends n) (sym adv.others) e

-- ---- in step

-- where the reading is the clock, both numbers fall as it goes on
ticks_in_step : {w v : WorldValue} {ms : ℕ} → Advances w ms (λ n. ms) v → AreRead w → IsTrue w.kept → IsInStep w → IsTrue v.kept × ((n : ℕ) → IsEnd w.ends n → reading v.now n ≡ v.now.clock)
ticks_in_step {w} {v} {ms} adv read on same = ((adv.kept).1 (on, allowed), reads)
  where
    reads : (n : ℕ) → IsEnd w.ends n → reading v.now n ≡ v.now.clock
    reads n e = adv.readings n e ∙ (λ i. later (same n e i) ms) ∙ sym adv.now

    falls_ahead : (t u c d last least : ℕ) → t ≤ u → u ≤ last → c ≡ t → d ≡ u → 1000 * c + 1001 * (last - t) ≤ least + 1000 → 1000 * d + 1001 * (last - u) ≤ min least (1000 * d + 1001 * (last - u)) + 1000
    falls_ahead t u c d last least a b p q e = omega arith

    falls_behind : (t u c d last least : ℕ) → t ≤ u → u ≤ last → c ≡ t → d ≡ u → 999 * t + 1000 * (last - c) ≤ least + 1000 → 999 * u + 1000 * (last - d) ≤ min least (999 * u + 1000 * (last - d)) + 1000
    falls_behind t u c d last least a b p q e = omega arith

    goes : w.now.clock ≤ v.now.clock
    goes = rw adv.now (goes_up w.now.clock ms read.now)

    allowed : (n : ℕ) → IsEnd w.ends n → IsAllowed (least_of v.least n) v.now n
    allowed n e =
        let was = read.allowed on n e in
        let last = (read_on adv read).now in
        record {
          not_ahead = rw (adv.least n e) (falls_ahead w.now.clock v.now.clock (reading w.now n) (reading v.now n) (2 ^ 60) (least_of w.least n).ahead goes last (same n e) (reads n e) was.not_ahead);
          not_behind = rw (adv.least n e) (falls_behind w.now.clock v.now.clock (reading w.now n) (reading v.now n) (2 ^ 60) (least_of w.least n).behind goes last (same n e) (reads n e) was.not_behind);
        }

abbrev pub AreInStep : WorldValue → Type 0
AreInStep w = IsTrue w.kept × IsInStep w

in_step_alike : StaysAlike AreInStep
in_step_alike = record {
  ticks = λ w v ms adv read is. let t = ticks_in_step adv read is.0 is.1 in (t.0, λ n e. t.1 n (was_end adv n e));
  others = λ w ends sent same is. (is.0, λ n e. is.1 n (e.0, sym (same n) ∙ e.1));
}

-- ---- until a clock stops

-- where no clock stops, both numbers fall
ticks_kept : {w v : WorldValue} {ms : ℕ} → Advances w ms (λ n. ms) v → AreRead w → NoClockStopped v → IsTrue w.kept → IsTrue v.kept
ticks_kept {w} {v} {ms} adv read going on = (adv.kept).1 (on, allowed)
  where
    falls_ahead : (t u c d ms last least : ℕ) → u ≡ min (t + ms) last → d ≡ min (c + ms) last → u < last → d < last → 1000 * c + 1001 * (last - t) ≤ least + 1000 → 1000 * d + 1001 * (last - u) ≤ min least (1000 * d + 1001 * (last - u)) + 1000
    falls_ahead t u c d ms last least a b p q e = omega arith

    falls_behind : (t u c d ms last least : ℕ) → u ≡ min (t + ms) last → d ≡ min (c + ms) last → u < last → d < last → 999 * t + 1000 * (last - c) ≤ least + 1000 → 999 * u + 1000 * (last - d) ≤ min least (999 * u + 1000 * (last - d)) + 1000
    falls_behind t u c d ms last least a b p q e = omega arith

    allowed : (n : ℕ) → IsEnd w.ends n → IsAllowed (least_of v.least n) v.now n
    allowed n e =
        let was = read.allowed on n e in
        let goes = going.1 n (is_end adv n e) in
        record {
          not_ahead = rw (adv.least n e) (falls_ahead w.now.clock v.now.clock (reading w.now n) (reading v.now n) ms (2 ^ 60) (least_of w.least n).ahead adv.now (adv.readings n e) going.0 goes was.not_ahead);
          not_behind = rw (adv.least n e) (falls_behind w.now.clock v.now.clock (reading w.now n) (reading v.now n) ms (2 ^ 60) (least_of w.least n).behind adv.now (adv.readings n e) going.0 goes was.not_behind);
        }

-- a clock that hasn't stopped hadn't stopped before
went : {w v : WorldValue} {ms : ℕ} → Advances w ms (λ n. ms) v → NoClockStopped v → NoClockStopped w
went {w} {v} {ms} adv going = (below w.now.clock v.now.clock ms (2 ^ 60) adv.now going.0, λ n e. below (reading w.now n) (reading v.now n) ms (2 ^ 60) (adv.readings n e) (going.1 n (is_end adv n e)))
  where
    below : (c d ms last : ℕ) → d ≡ min (c + ms) last → d < last → c < last
    below c d ms last e lt = omega arith

abbrev pub IsKeptUntilStopped : WorldValue → Type 0
IsKeptUntilStopped w = NoClockStopped w → IsTrue w.kept

kept_alike : StaysAlike IsKeptUntilStopped
kept_alike = record {
  ticks = λ w v ms adv read is going. ticks_kept adv read going (is (went adv going));
  others = λ w ends sent same is going. is (going.0, λ n e. going.1 n (e.0, same n ∙ e.1));
}

-- ---- a run

abbrev IsKeptWhileGoing : WorldValue → Type 0
IsKeptWhileGoing w = NoClockStopped w → IsTrue w.kept × IsSafe w

-- what holds after some of its events
pub record Along (events : List Event) (old : WorldValue) (worlds : List WorldValue) (last : WorldValue) : Type 0 where
  pub safe_timely : AreSafeWhileTimely worlds
  pub safe : AreSafeWhileKept worlds
  pub traced : Traced old worlds last
  pub told : Told IsAllowed IsBounded (λ w. w.kept) old worlds last
  pub told_timely : Told IsAllowedTimely IsTimely (λ w. w.timely) old worlds last
  pub in_step : IsTrue old.kept → IsInStep old → MoveClocksAlike events → AreSafe worlds × AreInStep last
  pub alike : IsTrue old.kept → MoveClocksAlike events → AreKeptUntilClocksStop worlds × IsKeptUntilStopped last

pub along_first : (w : WorldValue) → AreRead w → (IsTrue w.timely → IsSafe w) → (IsTrue w.kept → IsSafe w) → Along [] w (w ∷ []) w
along_first w read timely safe = record {
  safe_timely = All-cons (λ x. IsTrue x.timely → IsSafe x) w [] timely (All-nil (λ x. IsTrue x.timely → IsSafe x));
  safe = All-cons (λ x. IsTrue x.kept → IsSafe x) w [] safe (All-nil (λ x. IsTrue x.kept → IsSafe x));
  traced = traced_first w read;
  told = told_first IsAllowed IsBounded (λ x. x.kept) drift_bound w read.allowed;
  told_timely = told_first IsAllowedTimely IsTimely (λ x. x.timely) timely_bound w read.allowed_timely;
  in_step = λ on same one. (All-cons IsSafe w [] (safe on) (All-nil IsSafe), (on, same));
  alike = λ on one. (All-cons IsKeptWhileGoing w [] (λ going. (on, safe on)) (All-nil IsKeptWhileGoing), λ going. on);
}

all_parts : (P : Event → Type 0) (xs : List Event) (x : Event) → All P (xs ++ x ∷ []) → All P xs × P x
all_parts P [] x all = (All-nil P, All-head P x [] all)
all_parts P (y ∷ xs) x all = let rest = all_parts P xs x (All-tail P y (xs ++ x ∷ []) all) in (All-cons P y xs (All-head P y (xs ++ x ∷ []) all) rest.0, rest.1)

pub along_more : {events : List Event} {old w v : WorldValue} {worlds : List WorldValue} {event : Event} {outcome : Outcome} → Step w event outcome v → (IsTrue v.timely → IsSafe v) → (IsTrue v.kept → IsSafe v) → Along events old worlds w
    → Along (events ++ event ∷ []) old (worlds ++ v ∷ []) v
along_more {events} {w = w} {v} {worlds} {event} step timely safe is = record {
  safe_timely = All-push (λ x. IsTrue x.timely → IsSafe x) worlds v is.safe_timely timely;
  safe = All-push (λ x. IsTrue x.kept → IsSafe x) worlds v is.safe safe;
  traced = traced_more worlds w v goes is.traced;
  told = told_more IsAllowed IsBounded (λ x. x.kept) drift_bound worlds w v goes goes.kept is.traced is.told;
  told_timely = told_more IsAllowedTimely IsTimely (λ x. x.timely) timely_bound worlds w v goes goes.timely is.traced is.told_timely;
  in_step = λ on same one.
      let parts = all_parts (λ e. LetsClocksDrift e → ⊥) events event one in
      let was = is.in_step on same parts.0 in
      let stands = passes_alike in_step_alike (step_passes step) (is.traced).read parts.1 was.1 in
      (All-push IsSafe worlds v was.0 (safe stands.0), stands);
  alike = λ on one.
      let parts = all_parts (λ e. LetsClocksDrift e → ⊥) events event one in
      let was = is.alike on parts.0 in
      let stands = passes_alike kept_alike (step_passes step) (is.traced).read parts.1 was.1 in
      (All-push IsKeptWhileGoing worlds v was.0 (λ going. (stands going, safe (stands going))), stands);
}
  where
    goes : Goes w v
    goes = passes_goes (step_passes step) (is.traced).read

pub along_next : (events : List Event) (k : ℕ) {old w v : WorldValue} {worlds : List WorldValue} {event : Event} {outcome : Outcome} → k < length events → event ≡ get_or events k event → Step w event outcome v
    → (IsTrue v.timely → IsSafe v) → (IsTrue v.kept → IsSafe v) → Along (take k events) old worlds w → Along (take (k + 1) events) old (worlds ++ v ∷ []) v
along_next events k {old} {v = v} {worlds} {event} within at step timely safe is =
    subst (λ (es : List Event). Along es old (worlds ++ v ∷ []) v) (sym (take_more events k event within))
    (subst (λ (x : Event). Along (take k events ++ x ∷ []) old (worlds ++ v ∷ []) v) at (along_more step timely safe is))

pub runs_safely : {events : List Event} {old : WorldValue} {worlds : List WorldValue} {last : WorldValue} → Along events old worlds last → RunsSafely old worlds last
runs_safely is = record {
  safe_timely = is.safe_timely;
  safe = is.safe;
  told = λ config addrs fresh. told_fresh IsAllowed IsBounded (λ x. x.kept) drift_bound fresh fresh.kept is.traced is.told;
  told_timely = λ config addrs fresh. told_fresh IsAllowedTimely IsTimely (λ x. x.timely) timely_bound fresh fresh.timely is.traced is.told_timely;
}

pub runs_by_clocks : {events : List Event} {old : WorldValue} {worlds : List WorldValue} {last : WorldValue} → Along events old worlds last → RunsByClocks events old worlds last
runs_by_clocks is = record {
  told_on = (is.told).told;
  told_on_timely = (is.told_timely).told;
  one_clock = λ on same one. (is.in_step on same one).0;
  alike = λ on one. (is.alike on one).0;
}

pub along_whole : (events : List Event) (k : ℕ) {old : WorldValue} {worlds : List WorldValue} {last : WorldValue} → length events ≤ k → Along (take k events) old worlds last → Along events old worlds last
along_whole events k {old} {worlds} {last} le is = subst (λ (es : List Event). Along es old worlds last) (take_all k events le) is
