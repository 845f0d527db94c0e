-- What follows from the facts that every world keeps.
use Rattle.std.proofs.Common.{◌≡◌, ℕ, ◌+◌, ◌*◌, ◌<◌, ◌≤◌, Option, Some, None, refl, subst, arith, inl, inr}
use Rattle.nbt_name.specs.declared.addr.Addr.{Addr}
use Rattle.nbt_name.specs.declared.addr.Kind.{Kind}
use Rattle.nbt_name.specs.Wire.{NameValue}
use Rattle.nbt_server.specs.Serving.{ServerValue}
use Rattle.nbt_node.specs.declared.state.State.{State}
use Rattle.nbt_node.specs.declared.state.State.TheVariants.{Idle, Asking, Held, Releasing, Resting}
use Rattle.std.specs.Prelude.{IsTrue}
use Rattle.nbt_lease.specs.Drift.{quiet}
use Rattle.nbt_world.specs.declared.clocks.Clocks.{Clocks}
use Rattle.nbt_world.specs.Drift.{reading}
use Rattle.nbt_world.specs.World.{WorldValue, addr_of, node_of, latest}
use Rattle.nbt_world.proofs.Drifting.{RestLaw, asked_are_past}
use Rattle.nbt_world.specs.Inner.Kept.{Known, known, last_sending, WantsIn, Wants, IsOpen, IsOpenIn, Covers, IsCoveredIn, Invariant}
use Rattle.nbt_world.specs.Inner.Facts.{CoversIn, by_lease, by_silence, never_up, ClaimsAreCovered, IsRested, OpenIsFresh, RequestsHaveEnded}

pub claims_covered : (w : WorldValue) → Invariant w → IsTrue w.timely → ClaimsAreCovered w
claims_covered w kept on n a name kind end p c lt =
    let past : reading is.moment 0 ≤ reading w.now 0 =
    subst (λ (m : Clocks). reading m 0 ≤ reading w.now 0) (is.replied_is).moment_is ((kept.sent (is.replied_is).datagram (is.replied_is).among).seen 0 (w.ends.server_addr, refl)).read in
    let within = is.within in
    (is.moment, is.seconds, is.counted, go (latest w.ends) refl is.backed, omega arith)
  where
    is : IsCoveredIn w n a name kind end
    is = (kept.claims on).covered n a name kind end p c lt

    go : (s : Option ServerValue) → latest w.ends ≡ s → Covers (reading w.now 0) s a.ip name kind (reading is.moment 0 + 1000 * is.seconds) → CoversIn w a name kind (reading is.moment 0 + 1000 * is.seconds)
    go None e b = never_up e
    go (Some server) e (inl leased) = by_lease server e leased
    go (Some server) e (inr silent) = by_silence server e silent

-- where a name has rested, the last sending that the node knows of is its start
rested_bound : (w : WorldValue) (n : ℕ) (name : NameValue) → IsRested w n name → last_sending (reading w.now n) (known (node_of w.ends n) name) + quiet w.config.life < reading w.now n
rested_bound w n name rested = rw (rested.1, rested.2) rested.3

-- what is open is wanted
open_wanted : (k : Option Known) (kind : Kind) (first : ℕ) → IsOpen k kind first → Wants k kind
open_wanted None kind first w = w
open_wanted (Some k) kind first w = in_state k.state w
  where
    in_state : (s : State) → IsOpenIn s kind first → WantsIn s kind
    in_state Idle w = w
    in_state (Asking k ttl last p) w = w.0
    in_state (Held k ttl until renew last None) w = elim w [ ]
    in_state (Held k ttl until renew last (Some p)) w = w.0
    in_state (Releasing k last p) w = w
    in_state (Resting last) w = w

pub open_fresh : RestLaw → (w : WorldValue) → Invariant w → IsTrue w.timely → (n : ℕ) (a : Addr) (name : NameValue) → addr_of w.ends n ≡ Some a → OpenIsFresh w n a name
open_fresh law w kept on n a name p = record {
  one_kind = λ kind first moment message o x. (kept.requests on n a name p).one_kind kind moment message (open_wanted (known (node_of w.ends n) name) kind first o) x.0 x.1;
  asked_since = λ kind first moment message o x. (kept.replies on n a name p).since kind first moment message o (inl x.0) x.1;
  replied_since = λ kind first moment message o x. (kept.replies on n a name p).since kind first moment message o (inr x.0) x.1;
  in_time = λ moment message x. (kept.replies on n a name p).drawn moment message x.0 x.1;
  no_reply = λ moment message rested x.
      let rest = rested_bound w n name rested in
      let k = (kept.replies on n a name p).drawn moment message x.0 x.1 in
      let t = k.in_time in
      let b = k.known_of in
      let d = x.1 in
      let gone = (asked_are_past law kept.clocks on kept.sent n (a, p) k.sent k.request k.asked_is).rests (omega arith) in
      absurd (omega arith);
}

pub requests_ended : RestLaw → (w : WorldValue) → Invariant w → IsTrue w.timely → (n : ℕ) (a : Addr) (name : NameValue) → addr_of w.ends n ≡ Some a → RequestsHaveEnded w n a name
requests_ended law w kept on n a name p = record {
  by_last = λ moment message x. (kept.requests on n a name p).ended moment message x.0 x.1;
  no_request = λ moment message rested x.
      let rest = rested_bound w n name rested in
      let by = (kept.requests on n a name p).ended moment message x.0 x.1 in
      let d = x.1 in
      let gone = (asked_are_past law kept.clocks on kept.sent n (a, p) moment message x.0).rests (omega arith) in
      absurd (omega arith);
  no_release = λ kind moment message wants x. (kept.requests on n a name p).one_kind kind moment message wants x.0 x.1;
}
