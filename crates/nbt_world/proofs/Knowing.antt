-- What time, a sending, a reply, a start and a crash make of what holds of one node and one name.
use Rattle.std.proofs.Common.{◌≡◌, ℕ, ◌+◌, ◌*◌, ◌<◌, ◌≤◌, Bool, true, false, cond, ltb, leb, Option, Some, None, refl, sym, subst, arith, inl, inr}
use Rattle.std.specs.Prelude.{◌⊎◌}
use Rattle.std.proofs.lemmas.Bool.{ltb-true}
use Rattle.nbt_name.specs.declared.addr.Kind.{Kind}
use Rattle.nbt_name.specs.Wire.{NameValue}
use Rattle.nbt_packet.specs.Message.{MessageValue}
use Rattle.nbt_lease.specs.Drift.{quiet}
use Rattle.nbt_node.specs.declared.state.State.{State}
use Rattle.nbt_node.specs.declared.state.State.TheVariants.{Idle, Asking, Held, Releasing, Resting}
use Rattle.nbt_node.specs.declared.transaction.Transaction.{Transaction}
use Rattle.nbt_node.specs.Transaction.{is_over}
use Rattle.nbt_node.specs.Settling.{rested, pending_at, settled}
use Rattle.nbt_node.specs.Node.{NodeValue, AreDistinct, state_of}
use Rattle.nbt_node.specs.Moves.{NameEvent, hear, Told, Move, NameMoves, asks, gives_back, asks_again, gives_back_again, refreshes_again, refreshes, granted_to, renewed_to, refused_to, loses_asked, loses_held, freed, asking_waits, giving_back_waits, refresh_waits, unmoved}
use Rattle.nbt_world.specs.declared.clocks.Clocks.{Clocks}
use Rattle.nbt_world.specs.Drift.{reading}
use Rattle.nbt_world.specs.World.{IsDeliverable}
use Rattle.nbt_world.specs.Inner.Kept.{IsRequest, AsksAs, Known, last_of, WantsIn, IsOpen, IsOpenIn, DrawnBy, RequestsEnded, RepliesFresh}

-- ---- a node after a call

-- the node after a call at a moment: what never changes, its last moment, and that no name gets two slots
pub record Stays (old : NodeValue) (now : ℕ) (new : NodeValue) : Type 0 where
  pub addr_is : new.addr ≡ old.addr
  pub server_is : new.server ≡ old.server
  pub config_is : new.config ≡ old.config
  pub start_is : new.start ≡ old.start
  pub last_is : new.last ≡ now
  pub distinct_still : AreDistinct old.slots → AreDistinct new.slots

-- and where the call has moved one name: the move, and the state that it has led to
pub record Moved (old : NodeValue) (now : ℕ) (name : NameValue) (event : NameEvent) (new : NodeValue) (sent : Option MessageValue) (told : Told) : Type 0 where
  pub stays : Stays old now new
  pub moves : NameMoves old now name event new sent told
  pub named : state_of new name ≡ settled old.config.life now moves.after

-- ---- what was sent about the name, as the node reads it

-- what the network has of these, it has of those
abbrev pub Within : (these those : Clocks → MessageValue → Type 0) → Type 0
Within these those = (moment : Clocks) (message : MessageValue) → these moment message → those moment message

-- and at most this message more, sent now
abbrev pub IsMore : (number now : ℕ) → MessageValue → (old new : Clocks → MessageValue → Type 0) → Type 0
IsMore number now m old new = (moment : Clocks) (message : MessageValue) → new moment message → old moment message ⊎ ((reading moment number ≡ now) × (message ≡ m))

-- not later than now; and where the node has read more than the quiet time since, it may not be delivered any more, and
-- no reply to it
pub record IsPast (life number clock now : ℕ) (moment : Clocks) : Type 0 where
  pub read : reading moment number ≤ now
  pub rests : reading moment number + quiet life < now → moment.clock + 2 * life < clock

abbrev pub ArePast : (life number clock now : ℕ) → (Clocks → MessageValue → Type 0) → Type 0
ArePast life number clock now asked = (moment : Clocks) (message : MessageValue) → asked moment message → IsPast life number clock now moment

-- and what is sent now is too
pub past-more : {life number clock now : ℕ} {old new : Clocks → MessageValue → Type 0} {m : MessageValue} → ArePast life number clock now old → IsMore number now m old new → ArePast life number clock now new
past-more {life} {number} {clock} {now} {old} {m = m} past more moment message x = go (more moment message x)
  where
    go : old moment message ⊎ ((reading moment number ≡ now) × (message ≡ m)) → IsPast life number clock now moment
    go (inl a) = past moment message a
    go (inr e) = let at = e.0 in record { read = omega arith; rests = λ over. absurd (omega arith) }

-- ---- time

-- a state is what it was, or has less: it asks for nothing and holds nothing, and its last sending stays or has ended
pub data Fades (life now start : ℕ) (s t : State) : Type 0 where
  stays : last_of t start ≡ last_of s start → ((kind : Kind) → WantsIn t kind → WantsIn s kind) → ((kind : Kind) (first : ℕ) → IsOpenIn t kind first → IsOpenIn s kind first) → Fades life now start s t
  ends : last_of s start + quiet life < now → t ≡ Idle → Fades life now start s t

-- what remains of a state once time has ended it
rests : (life now start last : ℕ) (s : State) → last_of s start ≡ last → Fades life now start s (rested life now last)
rests life now start last s e = go (ltb (last + quiet life) now) refl
  where
    go : (t : Bool) → ltb (last + quiet life) now ≡ t → Fades life now start s (cond t Idle (Resting last))
    go true p = ends (rw e (ltb-true (last + quiet life) now p)) refl
    go false p = stays (sym e) (λ kind w. elim w [ ]) (λ kind first w. elim w [ ])

pub fades : (life now start : ℕ) (s : State) → Fades life now start s (settled life now s)
fades life now start Idle = stays refl (λ kind w. w) (λ kind first w. w)
fades life now start (Asking kind ttl last p) = go (is_over now p.tries p.due)
  where
    go : (t : Bool) → Fades life now start (Asking kind ttl last p) (cond t (rested life now last) (Asking kind ttl last p))
    go true = rests life now start last (Asking kind ttl last p) refl
    go false = stays refl (λ kind w. w) (λ kind first w. w)
fades life now start (Held kind ttl until renew last pending) = go (leb until now)
  where
    go : (t : Bool) → Fades life now start (Held kind ttl until renew last pending) (cond t (rested life now last) (Held kind ttl until renew last (pending_at now pending)))
    go true = rests life now start last (Held kind ttl until renew last pending) refl
    go false = stays refl (λ kind w. w) (still_open pending)
      where
        still_open : (o : Option Transaction) (k : Kind) (first : ℕ) → IsOpenIn (Held kind ttl until renew last (pending_at now o)) k first → IsOpenIn (Held kind ttl until renew last o) k first
        still_open None k first w = w
        still_open (Some r) k first w = at (is_over now r.tries r.due) w
          where
            at : (t : Bool) → IsOpenIn (Held kind ttl until renew last (cond t None (Some r))) k first → (kind ≡ k) × (r.first ≡ first)
            at true v = elim v [ ]
            at false v = v
fades life now start (Releasing kind last p) = go (is_over now p.tries p.due)
  where
    go : (t : Bool) → Fades life now start (Releasing kind last p) (cond t (rested life now last) (Releasing kind last p))
    go true = rests life now start last (Releasing kind last p) refl
    go false = stays refl (λ kind w. w) (λ kind first w. w)
fades life now start (Resting last) = rests life now start last (Resting last) refl

abbrev pub knows : ℕ → State → Option Known
knows start state = Some (record { start = start; state = state })

-- requests have ended after time's own moves
pub ended-fades : {life number clock now start : ℕ} {asked : Clocks → MessageValue → Type 0} {s t : State} → ArePast life number clock now asked → Fades life now start s t
    → RequestsEnded life number clock now asked (knows start s) → RequestsEnded life number clock now asked (knows start t)
ended-fades past (stays same wants opens) kept = record {
  ended = λ moment m a d. rw same (kept.ended moment m a d);
  one_kind = λ kind moment m w a d. kept.one_kind kind moment m (wants kind w) a d;
}
ended-fades {life} {clock = clock} {asked = asked} past (ends over idle) kept = record {
  ended = λ moment m a d. absurd (none moment m a d);
  one_kind = λ kind moment m w a d. absurd (none moment m a d);
}
  where
    none : (moment : Clocks) (m : MessageValue) → asked moment m → IsDeliverable life clock moment.clock → ⊥
    none moment m a d = let before = kept.ended moment m a d in let gone = (past moment m a).rests (omega arith) in omega arith

pub ended-settled : {life number clock now start : ℕ} {asked : Clocks → MessageValue → Type 0} {s : State} → ArePast life number clock now asked
    → RequestsEnded life number clock now asked (knows start s) → RequestsEnded life number clock now asked (knows start (settled life now s))
ended-settled {life} {now = now} {start = start} {s = s} past kept = ended-fades past (fades life now start s) kept

-- ---- replies

-- what is heard makes a state want nothing new, and its last sending stays
fades-heard : {life start : ℕ} {node : NodeValue} {now : ℕ} {name : NameValue} {s t : State} {m : MessageValue} {told : Told} {next : ℕ}
    → Move node now name s (hear m) t None told next → Fades life now start s t
fades-heard (granted_to kind ttl last p r e) = stays refl (λ k w. w) (λ k f w. elim w [ ])
fades-heard (renewed_to kind ttl until renew last p r e) = stays refl (λ k w. w) (λ k f w. elim w [ ])
fades-heard (refused_to kind ttl last rcode p r e ne) = stays refl (λ k w. elim w [ ]) (λ k first w. elim w [ ])
fades-heard (loses_asked kind ttl last p r ne) = stays refl (λ k w. elim w [ ]) (λ k first w. elim w [ ])
fades-heard (loses_held kind ttl until renew last rcode pending r ne c) = stays refl (λ k w. elim w [ ]) (λ k first w. elim w [ ])
fades-heard (freed kind last rcode p n k a) = stays refl (λ j w. elim w [ ]) (λ j first w. elim w [ ])
fades-heard (asking_waits kind ttl last p n t) = stays refl (λ k w. w) (λ k first w. w)
fades-heard (giving_back_waits kind last p n t) = stays refl (λ k w. elim w [ ]) (λ k first w. elim w [ ])
fades-heard (refresh_waits kind ttl until renew last p n t) = stays refl (λ k w. w) (λ k first w. w)
fades-heard (unmoved state message e) = stays refl (λ k w. w) (λ k first w. w)

pub ended-heard : {life number clock start : ℕ} {asked : Clocks → MessageValue → Type 0} {node : NodeValue} {now : ℕ} {name : NameValue} {s t : State} {m : MessageValue} {told : Told} {next : ℕ}
    → Move node now name s (hear m) t None told next → ArePast life number clock now asked
    → RequestsEnded life number clock now asked (knows start s) → RequestsEnded life number clock now asked (knows start t)
ended-heard move past kept = ended-fades past (fades-heard move) kept

-- ---- sendings

-- what is sent about a name: a request of the kind that the node wants from then on, which it wanted before, or else the
-- name was idle and has rested since the start
pub record IsSent (life now start : ℕ) (name : NameValue) (s t : State) (m : MessageValue) : Type 0 where
  pub last_is : last_of t start ≡ now
  pub request : IsRequest name m
  pub kind_is : (kind : Kind) → WantsIn t kind → AsksAs kind m
  pub before : (kind : Kind) → WantsIn t kind → WantsIn s kind ⊎ (last_of s start + quiet life < now)
  pub begun : (kind : Kind) (first : ℕ) → IsOpenIn t kind first → IsOpenIn s kind first ⊎ ((now ≡ first) × (last_of s start + quiet life < now))

pub is_sent : {node : NodeValue} {now : ℕ} {name : NameValue} {s t : State} {event : NameEvent} {m : MessageValue} {told : Told} {next : ℕ}
    → Move node now name s event t (Some m) told next → IsSent node.config.life now node.start name s t m
is_sent (asks kind ttl rested) = record { last_is = refl; request = refl; kind_is = λ k w. w; before = λ k w. inr rested; begun = λ k first w. inr (w.1, rested) }
is_sent (gives_back kind ttl until renew last pending) = record { last_is = refl; request = refl; kind_is = λ k w. elim w [ ]; before = λ k w. elim w [ ]; begun = λ k first w. elim w [ ] }
is_sent (asks_again kind ttl last p e) = record { last_is = refl; request = refl; kind_is = λ k w. w; before = λ k w. inl w; begun = λ k first w. inl w }
is_sent (gives_back_again kind last p e) = record { last_is = refl; request = refl; kind_is = λ k w. elim w [ ]; before = λ k w. elim w [ ]; begun = λ k first w. elim w [ ] }
is_sent (refreshes_again kind ttl until renew last p e) = record { last_is = refl; request = refl; kind_is = λ k w. w; before = λ k w. inl w; begun = λ k first w. inl w }
is_sent (refreshes kind ttl until renew last due rested) = record { last_is = refl; request = refl; kind_is = λ k w. w; before = λ k w. inl w; begun = λ k first w. inr (w.1, rested) }

-- after a sending: what the network has is what it had, and the request that was sent now
pub ended-sent : {life number clock now start : ℕ} {name : NameValue} {old new : Clocks → MessageValue → Type 0} {s t : State} {m : MessageValue} → IsSent life now start name s t m
    → ArePast life number clock now old → IsMore number now m old new
    → RequestsEnded life number clock now old (knows start s) → RequestsEnded life number clock now new (knows start t)
ended-sent {life} {number} {clock} {now} {start} {old = old} {s = s} {t = t} {m = m} is past more kept = record {
  ended = λ moment message a d. rw is.last_is (latest moment message (more moment message a));
  one_kind = λ kind moment message w a d. asked_as kind moment message w d (more moment message a);
}
  where
    latest : (moment : Clocks) (message : MessageValue) → old moment message ⊎ ((reading moment number ≡ now) × (message ≡ m)) → reading moment number ≤ now
    latest moment message (inl a) = (past moment message a).read
    latest moment message (inr e) = let at = e.0 in omega arith

    earlier : (kind : Kind) (moment : Clocks) (message : MessageValue) → old moment message → IsDeliverable life clock moment.clock → WantsIn s kind ⊎ (last_of s start + quiet life < now) → AsksAs kind message
    earlier kind moment message a d (inl w) = kept.one_kind kind moment message w a d
    earlier kind moment message a d (inr over) = let before = kept.ended moment message a d in let gone = (past moment message a).rests (omega arith) in absurd (omega arith)

    asked_as : (kind : Kind) (moment : Clocks) (message : MessageValue) → WantsIn t kind → IsDeliverable life clock moment.clock → old moment message ⊎ ((reading moment number ≡ now) × (message ≡ m)) → AsksAs kind message
    asked_as kind moment message w d (inl a) = earlier kind moment message a d (is.before kind w)
    asked_as kind moment message w d (inr e) = rw e.1 (is.kind_is kind w)

-- ---- the clock, the network, a start and a crash

-- a later moment, and no more requests
pub ended-frame : {life number clock now past later : ℕ} {old new : Clocks → MessageValue → Type 0} {k : Option Known} → clock ≤ past → now ≤ later → Within new old
    → RequestsEnded life number clock now old k → RequestsEnded life number past later new k
ended-frame {k = None} on le fewer kept = record {
  ended = λ moment message a d. let before = kept.ended moment message (fewer moment message a) (omega arith) in omega arith;
  one_kind = λ kind moment message w a d. elim w [ ];
}
ended-frame {k = Some k} on le fewer kept = record {
  ended = λ moment message a d. kept.ended moment message (fewer moment message a) (omega arith);
  one_kind = λ kind moment message w a d. kept.one_kind kind moment message w (fewer moment message a) (omega arith);
}

pub ended-start : {life number clock now : ℕ} {asked : Clocks → MessageValue → Type 0} → RequestsEnded life number clock now asked None → RequestsEnded life number clock now asked (knows now Idle)
ended-start kept = record { ended = kept.ended; one_kind = λ kind moment message w a d. elim w [ ] }

pub ended-down : {life number clock now : ℕ} {asked : Clocks → MessageValue → Type 0} → ((moment : Clocks) (message : MessageValue) → asked moment message → reading moment number ≤ now) → RequestsEnded life number clock now asked None
ended-down past = record { ended = λ moment message a d. past moment message a; one_kind = λ kind moment message w a d. elim w [ ] }

-- ---- what is open is fresh

-- no reply is left once the node has rested
pub fresh-fades : {life number clock now start : ℕ} {asked replied : Clocks → MessageValue → Type 0} {s t : State} → ArePast life number clock now asked → Fades life now start s t
    → RepliesFresh life number clock now asked replied (knows start s) → RepliesFresh life number clock now asked replied (knows start t)
fresh-fades past (stays same wants opens) kept = record {
  drawn = λ moment m r d.
      let k = kept.drawn moment m r d in
      record { sent = k.sent; request = k.request; asked_is = k.asked_is; in_time = k.in_time; known_of = rw same k.known_of };
  begun = λ kind first w. kept.begun kind first (opens kind first w);
  since = λ kind first moment m w x d. kept.since kind first moment m (opens kind first w) x d;
}
fresh-fades {t = t} past (ends over idle) kept = record {
  drawn = λ moment m r d.
      let k = kept.drawn moment m r d in
      let a = k.in_time in
      let b = k.known_of in
      let gone = (past k.sent k.request k.asked_is).rests (omega arith) in
      absurd (omega arith);
  begun = λ kind first w. absurd (not_open t idle kind first w);
  since = λ kind first moment m w x d. absurd (not_open t idle kind first w);
}
  where
    not_open : (u : State) → u ≡ Idle → (kind : Kind) (first : ℕ) → IsOpenIn u kind first → ⊥
    not_open u e kind first w = subst (λ (v : State). IsOpenIn v kind first) e w

pub fresh-settled : {life number clock now start : ℕ} {asked replied : Clocks → MessageValue → Type 0} {s : State} → ArePast life number clock now asked
    → RepliesFresh life number clock now asked replied (knows start s) → RepliesFresh life number clock now asked replied (knows start (settled life now s))
fresh-settled {life} {now = now} {start = start} {s = s} past kept = fresh-fades past (fades life now start s) kept

pub fresh-heard : {life number clock start : ℕ} {asked replied : Clocks → MessageValue → Type 0} {node : NodeValue} {now : ℕ} {name : NameValue} {s t : State} {m : MessageValue} {told : Told} {next : ℕ}
    → Move node now name s (hear m) t None told next → ArePast life number clock now asked
    → RepliesFresh life number clock now asked replied (knows start s) → RepliesFresh life number clock now asked replied (knows start t)
fresh-heard move past kept = fresh-fades past (fades-heard move) kept

pub fresh-sent : {life number clock now start : ℕ} {name : NameValue} {asked more replied : Clocks → MessageValue → Type 0} {s t : State} {m : MessageValue} → IsSent life now start name s t m
    → ArePast life number clock now asked → Within asked more → IsMore number now m asked more
    → RequestsEnded life number clock now asked (knows start s) → RepliesFresh life number clock now asked replied (knows start s) → RepliesFresh life number clock now more replied (knows start t)
fresh-sent {life} {number} {clock} {now} {start} {asked = asked} {more = more} {replied = replied} {s = s} {m = m} is past grows back ended kept = record {
  drawn = λ moment message r d.
      let k = kept.drawn moment message r d in
      record { sent = k.sent; request = k.request; asked_is = grows k.sent k.request k.asked_is; in_time = k.in_time; known_of = rw is.last_is (past k.sent k.request k.asked_is).read };
  begun = λ kind first w. by_now kind first (is.begun kind first w);
  since = λ kind first moment message w x d. after_first kind first moment message (is.begun kind first w) d (seen moment message x);
}
  where
    by_now : (kind : Kind) (first : ℕ) → IsOpenIn s kind first ⊎ ((now ≡ first) × (last_of s start + quiet life < now)) → first ≤ now
    by_now kind first (inl w) = kept.begun kind first w
    by_now kind first (inr e) = let at = e.0 in omega arith

    -- what is there was there, or was sent now
    seen : (moment : Clocks) (message : MessageValue) → more moment message ⊎ replied moment message → (asked moment message ⊎ replied moment message) ⊎ (reading moment number ≡ now)
    seen moment message (inl a) = go (back moment message a)
      where
        go : asked moment message ⊎ ((reading moment number ≡ now) × (message ≡ m)) → (asked moment message ⊎ replied moment message) ⊎ (reading moment number ≡ now)
        go (inl old) = inl (inl old)
        go (inr e) = inr e.0
    seen moment message (inr r) = inl (inr r)

    -- where it rested, nothing is left
    over : (moment : Clocks) (message : MessageValue) → last_of s start + quiet life < now → asked moment message ⊎ replied moment message → IsDeliverable life clock moment.clock → ⊥
    over moment message rested (inl a) d = let before = ended.ended moment message a d in let gone = (past moment message a).rests (omega arith) in omega arith
    over moment message rested (inr r) d =
        let k = kept.drawn moment message r d in
        let a = k.in_time in
        let b = k.known_of in
        let gone = (past k.sent k.request k.asked_is).rests (omega arith) in
        omega arith

    after_first : (kind : Kind) (first : ℕ) (moment : Clocks) (message : MessageValue) → IsOpenIn s kind first ⊎ ((now ≡ first) × (last_of s start + quiet life < now)) → IsDeliverable life clock moment.clock
        → (asked moment message ⊎ replied moment message) ⊎ (reading moment number ≡ now) → first ≤ reading moment number
    after_first kind first moment message (inl w) d (inl x) = kept.since kind first moment message w x d
    after_first kind first moment message (inr e) d (inl x) = absurd (over moment message e.1 x d)
    after_first kind first moment message begun d (inr e) = let by = by_now kind first begun in omega arith

-- a later moment, the same requests, and no more replies
pub fresh-frame : {life number clock now past later : ℕ} {asked more replied fewer : Clocks → MessageValue → Type 0} {k : Option Known} → clock ≤ past → now ≤ later
    → Within asked more → Within more asked → Within fewer replied
    → RepliesFresh life number clock now asked replied k → RepliesFresh life number past later more fewer k
fresh-frame {k = None} on le grows back shrinks kept = record {
  drawn = λ moment message r d.
      let k = kept.drawn moment message (shrinks moment message r) (omega arith) in
      let b = k.known_of in
      record { sent = k.sent; request = k.request; asked_is = grows k.sent k.request k.asked_is; in_time = k.in_time; known_of = omega arith };
  begun = λ kind first w. elim w [ ];
  since = λ kind first moment message w x d. elim w [ ];
}
fresh-frame {asked = asked} {more = more} {replied = replied} {fewer = fewer} {k = Some x} on le grows back shrinks kept = record {
  drawn = λ moment message r d.
      let k = kept.drawn moment message (shrinks moment message r) (omega arith) in
      record { sent = k.sent; request = k.request; asked_is = grows k.sent k.request k.asked_is; in_time = k.in_time; known_of = k.known_of };
  begun = λ kind first w. let b = kept.begun kind first w in omega arith;
  since = λ kind first moment message w x d. kept.since kind first moment message w (seen moment message x) (omega arith);
}
  where
    seen : (moment : Clocks) (message : MessageValue) → more moment message ⊎ fewer moment message → asked moment message ⊎ replied moment message
    seen moment message (inl a) = inl (back moment message a)
    seen moment message (inr r) = inr (shrinks moment message r)

pub fresh-start : {life number clock now : ℕ} {asked replied : Clocks → MessageValue → Type 0} → RepliesFresh life number clock now asked replied None → RepliesFresh life number clock now asked replied (knows now Idle)
fresh-start kept = record {
  drawn = λ moment message r d.
      let k = kept.drawn moment message r d in
      record { sent = k.sent; request = k.request; asked_is = k.asked_is; in_time = k.in_time; known_of = k.known_of };
  begun = λ kind first w. elim w [ ];
  since = λ kind first moment message w x d. elim w [ ];
}

pub fresh-down : {life number clock now : ℕ} {asked replied : Clocks → MessageValue → Type 0} {k : Option Known} → ((moment : Clocks) (message : MessageValue) → asked moment message → reading moment number ≤ now)
    → RepliesFresh life number clock now asked replied k → RepliesFresh life number clock now asked replied None
fresh-down past kept = record {
  drawn = λ moment message r d.
      let b = kept.drawn moment message r d in
      record { sent = b.sent; request = b.request; asked_is = b.asked_is; in_time = b.in_time; known_of = past b.sent b.request b.asked_is };
  begun = λ kind first w. elim w [ ];
  since = λ kind first moment message w x d. elim w [ ];
}

-- replies more, which the server has sent now, each to a request that was delivered
pub record Draws (life number clock now : ℕ) (asked : Clocks → MessageValue → Type 0) (moment : Clocks) : Type 0 where
  pub sent : Clocks
  pub request : MessageValue
  pub clock_is : moment.clock ≡ clock
  pub now_is : reading moment number ≡ now
  pub asked_is : asked sent request
  pub delivered : IsDeliverable life clock sent.clock

pub fresh-reply : {life number clock now : ℕ} {asked more replied grown : Clocks → MessageValue → Type 0} {k : Option Known} → RequestsEnded life number clock now asked k → Within asked more
    → ((kind : Kind) (first : ℕ) (moment : Clocks) (message : MessageValue) → IsOpen k kind first → more moment message → asked moment message)
    → ((moment : Clocks) (message : MessageValue) → grown moment message → replied moment message ⊎ Draws life number clock now asked moment)
    → RepliesFresh life number clock now asked replied k → RepliesFresh life number clock now more grown k
fresh-reply {life} {number} {clock} {now} {asked} {more} {replied} {grown} {k} ended grows back new kept = record {
  drawn = λ moment message r d. by moment message d (new moment message r);
  begun = kept.begun;
  since = λ kind first moment message w x d. after_first kind first moment message w d x;
}
  where
    after_first : (kind : Kind) (first : ℕ) (moment : Clocks) (message : MessageValue) → IsOpen k kind first → IsDeliverable life clock moment.clock → more moment message ⊎ grown moment message → first ≤ reading moment number
    after_first kind first moment message w d (inl a) = kept.since kind first moment message w (inl (back kind first moment message w a)) d
    after_first kind first moment message w d (inr r) = go (new moment message r)
      where
        go : replied moment message ⊎ Draws life number clock now asked moment → first ≤ reading moment number
        go (inl old) = kept.since kind first moment message w (inr old) d
        go (inr e) = let n = e.now_is in let b = kept.begun kind first w in omega arith

    by : (moment : Clocks) (message : MessageValue) → IsDeliverable life clock moment.clock → replied moment message ⊎ Draws life number clock now asked moment → DrawnBy life number now more k moment
    by moment message d (inl r) =
        let b = kept.drawn moment message r d in
        record { sent = b.sent; request = b.request; asked_is = grows b.sent b.request b.asked_is; in_time = b.in_time; known_of = b.known_of }
    by moment message d (inr e) =
        let n = e.clock_is in
        let t = e.delivered in
        record { sent = e.sent; request = e.request; asked_is = grows e.sent e.request e.asked_is; in_time = omega arith; known_of = ended.ended e.sent e.request e.asked_is e.delivered }
