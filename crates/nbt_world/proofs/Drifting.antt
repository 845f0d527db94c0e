-- While the readings are timely, every datagram of the list is timely with now: so what its end has read since
-- tells how long ago it was sent, and how long the server has leased since.
use Rattle.std.proofs.Common.{◌≡◌, ℕ, zero, suc, ◌+◌, ◌*◌, ◌-◌, ◌^◌, ◌<◌, ◌≤◌, List, refl, subst, arith}
use Rattle.std.specs.Prelude.{Contains, IsTrue}
use Rattle.nbt_name.specs.declared.addr.Addr.{Addr}
use Rattle.nbt_name.specs.Wire.{NameValue}
use Rattle.nbt_packet.specs.Message.{MessageValue}
use Rattle.nbt_lease.specs.Drift.{KeepsDriftBound, hold, quiet}
use Rattle.nbt_world.specs.declared.clocks.Clocks.{Clocks}
use Rattle.nbt_world.specs.declared.clocks.Least.{Least}
use Rattle.nbt_world.specs.declared.network.Datagram.{Datagram}
use Rattle.nbt_world.specs.Drift.{reading, IsBounded, IsTimely, least_of, IsAllowed, IsAllowedTimely}
use Rattle.nbt_world.specs.World.{WorldValue, IsEnd}
use Rattle.nbt_world.specs.Inner.Kept.{Asked, Replied, IsSeen, AreRead, IsSent}
use Rattle.nbt_world.proofs.Knowing.{IsPast, ArePast}

-- the laws of nbt_lease that this rests on
abbrev pub RestLaw : Type 0
RestLaw = (true_then true_now node_then node_now life : ℕ) → KeepsDriftBound true_then node_then true_now node_now → node_then + quiet life < node_now → true_then + 2 * life < true_now

abbrev pub HoldLaw : Type 0
HoldLaw = (true_then true_now node_then node_now server_then server_now seconds : ℕ) → KeepsDriftBound true_then node_then true_now node_now → KeepsDriftBound true_then server_then true_now server_now
    → node_then ≤ node_now → node_now < node_then + hold seconds → server_now < server_then + 1000 * seconds

-- in numbers: clocks that are not past the last moment, and a least that is no greater than then, and near enough now
near_ahead : (was now read_then read_now last ahead : ℕ) → was ≤ now → now ≤ last → ahead ≤ 1000 * read_then + 1001 * (last - was) → 1000 * read_now + 1001 * (last - now) ≤ ahead + 1000
    → 1000 * read_now + 1001 * was ≤ 1000 * read_then + 1001 * now + 1000
near_ahead was now read_then read_now last ahead a b c d = omega arith

near_back : (was now read_then read_now last behind : ℕ) → read_then ≤ read_now → read_now ≤ last → behind ≤ 999 * was + 1000 * (last - read_then) → 999 * now + 1000 * (last - read_now) ≤ behind + 1000
    → 999 * now + 1000 * read_then ≤ 999 * was + 1000 * read_now + 1000
near_back was now read_then read_now last behind a b c d = omega arith

pub bounded : (least : List Least) (moment now : Clocks) (number : ℕ) → moment.clock ≤ now.clock → now.clock ≤ 2 ^ 60 → reading now number ≤ 2 ^ 60 → IsSeen least now moment number → IsAllowed (least_of least number) now number
    → IsBounded moment now number
bounded least moment now number before last ends seen allowed =
    record {
      ahead = near_ahead moment.clock now.clock (reading moment number) (reading now number) (2 ^ 60) (least_of least number).ahead before last seen.least_ahead allowed.not_ahead;
      back = near_back moment.clock now.clock (reading moment number) (reading now number) (2 ^ 60) (least_of least number).behind seen.read ends seen.least_behind allowed.not_behind;
    }

pub bounded_timely : (least : List Least) (moment now : Clocks) (number : ℕ) → moment.clock ≤ now.clock → now.clock ≤ 2 ^ 60 → reading now number ≤ 2 ^ 60 → IsSeen least now moment number → IsAllowedTimely (least_of least number) now number
    → IsTimely moment now number
bounded_timely least moment now number before last ends seen allowed =
    record {
      ahead = near_ahead moment.clock now.clock (reading moment number) (reading now number) (2 ^ 60) (least_of least number).ahead before last seen.least_ahead allowed.not_ahead;
      back = λ node. near_back moment.clock now.clock (reading moment number) (reading now number) (2 ^ 60) (least_of least number).behind seen.read ends seen.least_behind (allowed.not_behind node);
    }

-- ---- a clock that isn't fast

-- it reads no later than one that keeps the whole bound
record Above (was now read_then read_now : ℕ) : Type 0 where
  later : ℕ
  past : read_now ≤ later
  bound : KeepsDriftBound was read_then now later

above : (was now read_then read_now : ℕ) → was ≤ now → 1000 * read_now + 1001 * was ≤ 1000 * read_then + 1001 * now + 1000 → Above was now read_then read_now
above was now read_then read_now past ahead =
    record { later = read_now + ((read_then + (now - was)) - read_now); past = omega arith; bound = record { ahead = omega arith; back = omega arith } }

-- so the law of rests needs no more of a clock
rest_of_timely : RestLaw → (was now read_then read_now life : ℕ) → was ≤ now → 1000 * read_now + 1001 * was ≤ 1000 * read_then + 1001 * now + 1000 → read_then + quiet life < read_now → was + 2 * life < now
rest_of_timely law was now read_then read_now life past ahead rest =
    let it = above was now read_then read_now past ahead in
    let most = it.past in
    law was now read_then it.later life it.bound (omega arith)

-- nor does the law of holds of the server's. At the server's own end both clocks are one.
hold_of_timely : HoldLaw → (moment now : Clocks) (n seconds : ℕ) → moment.clock ≤ now.clock → IsTimely moment now n → IsTimely moment now 0
    → reading moment n ≤ reading now n → reading now n < reading moment n + hold seconds → reading now 0 < reading moment 0 + 1000 * seconds
hold_of_timely law moment now zero seconds past node server on lt =
    law (reading moment 0) (reading now 0) (reading moment 0) (reading now 0) (reading moment 0) (reading now 0) seconds (one_clock (reading moment 0) (reading now 0) on) (one_clock (reading moment 0) (reading now 0) on) on lt
  where
    one_clock : (was now : ℕ) → was ≤ now → KeepsDriftBound was was now now
    one_clock was now on = record { ahead = omega arith; back = omega arith }
hold_of_timely law moment now (suc i) seconds past node server on lt =
    let it = above moment.clock now.clock (reading moment 0) (reading now 0) past server.ahead in
    let most = it.past in
    let ends = law moment.clock now.clock (reading moment (suc i)) (reading now (suc i)) (reading moment 0) it.later seconds (record { ahead = node.ahead; back = node.back (is_node i) }) it.bound on lt in
    omega arith
  where
    is_node : (i : ℕ) → suc i ≡ zero → ⊥
    is_node i e = cc

sent_bounded : {w : WorldValue} {d : Datagram} → AreRead w → IsTrue w.timely → (n : ℕ) → IsEnd w.ends n → IsSent w.ends w.now w.least d → IsTimely d.moment w.now n
sent_bounded {w} {d} read on n end is = bounded_timely w.least d.moment w.now n is.past read.now (read.readings n end) (is.seen n end) (read.allowed_timely on n end)

-- requests are of the past
pub asked_are_past : RestLaw → {w : WorldValue} {ip : ℕ} {name : NameValue} → AreRead w → IsTrue w.timely → ((d : Datagram) → Contains w.sent d → IsSent w.ends w.now w.least d)
    → (n : ℕ) → IsEnd w.ends n → ArePast w.config.life n w.now.clock (reading w.now n) (Asked w.sent ip name)
asked_are_past law {w} read on all n end moment message x =
    let is = all x.datagram x.among in
    subst (λ (m : Clocks). IsPast w.config.life n w.now.clock (reading w.now n) m) x.moment_is
    (record { read = (is.seen n end).read; rests = rest_of_timely law x.datagram.moment.clock w.now.clock (reading x.datagram.moment n) (reading w.now n) w.config.life is.past (sent_bounded read on n end is).ahead })

-- by a reply that the server sent, the node's hold is over before the lease
pub hold_over : HoldLaw → {w : WorldValue} {to : Addr} {name : NameValue} {moment : Clocks} {message : MessageValue} → AreRead w → IsTrue w.timely → ((d : Datagram) → Contains w.sent d → IsSent w.ends w.now w.least d)
    → (n : ℕ) → IsEnd w.ends n → Replied w.sent w.ends.server_addr to name moment message
    → (seconds : ℕ) → reading w.now n < reading moment n + hold seconds → reading w.now 0 < reading moment 0 + 1000 * seconds
hold_over law {w} read on all n end r seconds =
    let is = all r.datagram r.among in
    subst (λ (m : Clocks). reading w.now n < reading m n + hold seconds → reading w.now 0 < reading m 0 + 1000 * seconds) r.moment_is
    (hold_of_timely law r.datagram.moment w.now n seconds is.past (sent_bounded read on n end is) (sent_bounded read on 0 (w.ends.server_addr, refl) is) (is.seen n end).read)
