-- What a world keeps when its clocks go on.
use Rattle.std.proofs.Common.{ℕ, ◌^◌, ◌≤◌, refl, arith}
use Rattle.std.specs.Prelude.{IsTrue, Contains}
use Rattle.nbt_lease.specs.Config.{ConfigValue}
use Rattle.nbt_lease.specs.Lease.{Rows, leases_at, IsSound}
use Rattle.nbt_world.specs.declared.clocks.Clocks.{Clocks}
use Rattle.nbt_world.specs.declared.clocks.Least.{Least}
use Rattle.nbt_world.specs.declared.network.Datagram.{Datagram}
use Rattle.nbt_world.specs.Drift.{reading, later, IsAllowed, IsAllowedTimely}
use Rattle.nbt_world.specs.World.{WorldValue, IsEnd}
use Rattle.nbt_world.specs.Step.{Advances}
use Rattle.nbt_world.specs.Inner.Kept.{IsSeen, AreRead, IsSent, Invariant}
use Rattle.nbt_world.proofs.Knowing.{ended-frame, fresh-frame}
use Rattle.nbt_world.proofs.Drifting.{HoldLaw}
use Rattle.nbt_world.proofs.Keeping.{sent_frame}
use Rattle.nbt_world.proofs.Covering.{LaterLive, clock_claims}

-- the laws of leases that this rests on
abbrev pub StaySound : Type 0
StaySound = (config : ConfigValue) (early late : ℕ) (rows : Rows) → early ≤ late → IsSound config early (leases_at early rows) → IsSound config late (leases_at late rows)

pub goes_up : (moment ms : ℕ) → moment ≤ 2 ^ 60 → moment ≤ later moment ms
goes_up moment ms le = omega arith

stops : (moment ms : ℕ) → later moment ms ≤ 2 ^ 60
stops moment ms = omega arith

-- a moment that was seen is seen still, and the present is
pub sees : {w v : WorldValue} {ms : ℕ} {moves : ℕ → ℕ} → Advances w ms moves v → AreRead w → (n : ℕ) → IsEnd w.ends n → (moment : Clocks) → IsSeen w.least w.now moment n → IsSeen v.least v.now moment n
sees {w} {moves = moves} adv read n e moment seen =
    let past = seen.read in
    let up = goes_up (reading w.now n) (moves n) (read.readings n e) in
    let a = seen.least_ahead in
    let b = seen.least_behind in
    record {
      read = rw (adv.readings n e) (omega arith);
      least_ahead = rw (adv.least n e) (omega arith);
      least_behind = rw (adv.least n e) (omega arith);
    }

sees_now : {w v : WorldValue} {ms : ℕ} {moves : ℕ → ℕ} → Advances w ms moves v → (n : ℕ) → IsEnd w.ends n → IsSeen v.least v.now v.now n
sees_now adv n e = record {
  read = omega arith;
  least_ahead = rw (adv.least n e) (omega arith);
  least_behind = rw (adv.least n e) (omega arith);
}

-- an end that the bound allows is timely
allowed_is_timely : {least : Least} {clocks : Clocks} {n : ℕ} → IsAllowed least clocks n → IsAllowedTimely least clocks n
allowed_is_timely is = record { not_ahead = is.not_ahead; not_behind = λ node. is.not_behind }

pub read_on : {w v : WorldValue} {ms : ℕ} {moves : ℕ → ℕ} → Advances w ms moves v → AreRead w → AreRead (record w { now = v.now; least = v.least; kept = v.kept; timely = v.timely })
read_on {w} {ms = ms} {moves} adv read = record {
  now = rw adv.now (stops w.now.clock ms);
  readings = λ n e. rw (adv.readings n e) (stops (reading w.now n) (moves n));
  seen = λ n e. sees_now adv n e;
  allowed = λ on n e. ((adv.kept).0 on).1 n e;
  allowed_timely = λ on n e. ((adv.timely).0 on).1 n e;
  kept_timely = λ on. let was = (adv.kept).0 on in (adv.timely).1 (read.kept_timely was.0, λ n e. allowed_is_timely (was.1 n e));
}

pub clock_changes : StaySound → LaterLive → HoldLaw → {w v : WorldValue} {ms : ℕ} {moves : ℕ → ℕ} → Advances w ms moves v → Invariant w → Invariant (record w { now = v.now; least = v.least; kept = v.kept; timely = v.timely })
clock_changes law live holds {w} {v} {ms} {moves} adv kept = record {
  ends = record { nodes_at_least = kept.ends.nodes_at_least; nodes_at_most = kept.ends.nodes_at_most; apart = kept.ends.apart };
  clocks = read_on adv kept.clocks;
  nodes = λ n a node p up.
      let k = kept.nodes n a node p up in
      let past = k.past in
      let on = reads n (a, p) in
      record { addr_is = k.addr_is; server_is = k.server_is; config_is = k.config_is; distinct = k.distinct; past = omega arith };
  server = λ server up.
      let k = kept.server server up in
      let past = k.past in
      let on = reads 0 (w.ends.server_addr, refl) in
      record { life_is = k.life_is; longest_is = k.longest_is; past = omega arith; sound = law w.config (reading w.now 0) (reading v.now 0) server.table.rows on k.sound };
  sent = sent;
  requests = λ on n a name p.
      ended-frame goes (reads n (a, p)) (λ moment message asked. asked) (kept.requests (before on) n a name p);
  replies = λ on n a name p.
      fresh-frame goes (reads n (a, p)) (λ moment message asked. asked) (λ moment message asked. asked) (λ moment message replied. replied) (kept.replies (before on) n a name p);
  claims = λ on. clock_claims live holds goes reads (read_on adv kept.clocks) sent on (kept.claims (before on));
}
  where
    goes : w.now.clock ≤ v.now.clock
    goes = rw adv.now (goes_up w.now.clock ms kept.clocks.now)

    reads : (n : ℕ) → IsEnd w.ends n → reading w.now n ≤ reading v.now n
    reads n e = rw (adv.readings n e) (goes_up (reading w.now n) (moves n) (kept.clocks.readings n e))

    before : IsTrue v.timely → IsTrue w.timely
    before on = ((adv.timely).0 on).0

    sent : (d : Datagram) → Contains w.sent d → IsSent w.ends v.now v.least d
    sent d c = sent_frame (λ n. refl) goes (λ n e seen. sees adv kept.clocks n e d.moment seen) (kept.sent d c)
