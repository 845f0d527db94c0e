-- No move of a node makes a claim that wasn't there: time takes claims away, where a transaction opens no reply is left
-- that could answer it, and a hold is the claim that its reply was.
use Rattle.std.proofs.Common.{◌≡◌, ℕ, ◌+◌, ◌<◌, ◌≤◌, Bool, true, false, cond, ltb, leb, Option, Some, None, refl, subst, arith}
use Rattle.nbt_name.specs.declared.addr.Kind.{Kind}
use Rattle.nbt_name.specs.Wire.{NameValue}
use Rattle.nbt_packet.specs.declared.message.Registration.{Registration}
use Rattle.nbt_packet.specs.Message.{MessageValue, registered}
use Rattle.nbt_lease.specs.Drift.{quiet}
use Rattle.nbt_node.specs.declared.state.State.{State}
use Rattle.nbt_node.specs.declared.state.State.TheVariants.{Idle, Asking, Held, Releasing, Resting}
use Rattle.nbt_node.specs.declared.transaction.Transaction.{Transaction}
use Rattle.nbt_node.specs.Transaction.{is_over}
use Rattle.nbt_node.specs.Settling.{rested, pending_at, settled}
use Rattle.nbt_node.specs.Node.{NodeValue, state_of, state_at}
use Rattle.nbt_node.specs.Moves.{NameEvent, hear, Told, Move, asks, gives_back, asks_again, gives_back_again, refreshes_again, refreshes, granted_to, renewed_to, refused_to, loses_asked, loses_held, freed, asking_waits, giving_back_waits, refresh_waits, unmoved}
use Rattle.nbt_world.specs.declared.clocks.Clocks.{Clocks}
use Rattle.nbt_world.specs.World.{IsDeliverable}
use Rattle.nbt_world.specs.Inner.Kept.{Known, known, Wants, IsOpen, IsOpenIn, Claims, has, may_get, RepliesFresh, last_of}
use Rattle.nbt_world.proofs.Knowing.{Stays, Moved, Within, ArePast, knows, fresh-settled}

-- each claim was there before
abbrev pub NoNewClaim : (longest life clock : ℕ) → (Clocks → MessageValue → Type 0) → Option Known → Option Known → Type 0
NoNewClaim longest life clock replied old new = (kind : Kind) (end : ℕ) → Claims longest life clock replied new kind end → Claims longest life clock replied old kind end

-- whoever claims a name wants it as that kind
pub claims_want : {longest life now : ℕ} {replied : Clocks → MessageValue → Type 0} {k : Option Known} {kind : Kind} {end : ℕ} → Claims longest life now replied k kind end → Wants k kind
claims_want {k = None} (has j e w) = w
claims_want {k = None} (may_get j first moment r w a d) = w
claims_want {longest} {life} {now} {replied} {k = Some k} c = in_state k.start k.state _ _ c
  where
    in_state : (start : ℕ) (s : State) (kind : Kind) (end : ℕ) → Claims longest life now replied (knows start s) kind end → Wants (knows start s) kind
    in_state start Idle kind end (has j e w) = w
    in_state start Idle kind end (may_get j first moment r w a d) = w
    in_state start (Asking k ttl last p) kind end (has j e w) = elim w [ ]
    in_state start (Asking k ttl last p) kind end (may_get j first moment r w a d) = w.0
    in_state start (Held k ttl until renew last pending) kind end (has j e w) = w.0
    in_state start (Held k ttl until renew last None) kind end (may_get j first moment r w a d) = elim w [ ]
    in_state start (Held k ttl until renew last (Some p)) kind end (may_get j first moment r w a d) = w.0
    in_state start (Releasing k last p) kind end (has j e w) = w
    in_state start (Releasing k last p) kind end (may_get j first moment r w a d) = w
    in_state start (Resting last) kind end (has j e w) = w
    in_state start (Resting last) kind end (may_get j first moment r w a d) = w

-- with fewer replies, and later, there are fewer claims
pub claims_fewer : {longest life now later : ℕ} {replied fewer : Clocks → MessageValue → Type 0} {k : Option Known} {kind : Kind} {end : ℕ} → now ≤ later → Within fewer replied
    → Claims longest life later fewer k kind end → Claims longest life now replied k kind end
claims_fewer le shrinks (has j e w) = has j e w
claims_fewer le shrinks (may_get j first moment r w a d) = may_get j first moment r w (shrinks moment (registered 0 r) a) (omega arith)

-- ---- time

rested_claims : {longest life clock start : ℕ} {replied : Clocks → MessageValue → Type 0} {k : Option Known} (now last : ℕ) → NoNewClaim longest life clock replied k (knows start (rested life now last))
rested_claims {longest} {life} {clock} {start} {replied} {k} now last = go (ltb (last + quiet life) now)
  where
    go : (t : Bool) → NoNewClaim longest life clock replied k (knows start (cond t Idle (Resting last)))
    go true kind end (has j e w) = elim w [ ]
    go true kind end (may_get j first moment r w a d) = elim w [ ]
    go false kind end (has j e w) = elim w [ ]
    go false kind end (may_get j first moment r w a d) = elim w [ ]

settled_claims : {longest life clock start : ℕ} {replied : Clocks → MessageValue → Type 0} (now : ℕ) (s : State) → NoNewClaim longest life clock replied (knows start s) (knows start (settled life now s))
settled_claims now Idle = λ kind end c. c
settled_claims {longest} {life} {clock} {start} {replied} now (Asking kind ttl last p) = go (is_over now p.tries p.due)
  where
    go : (t : Bool) → NoNewClaim longest life clock replied (knows start (Asking kind ttl last p)) (knows start (cond t (rested life now last) (Asking kind ttl last p)))
    go true = rested_claims now last
    go false = λ k end c. c
settled_claims {longest} {life} {clock} {start} {replied} now (Held kind ttl until renew last pending) = go (leb until now)
  where
    still_open : (o : Option Transaction) (k : Kind) (first : ℕ) → IsOpenIn (Held kind ttl until renew last (pending_at now o)) k first → IsOpenIn (Held kind ttl until renew last o) k first
    still_open None k first w = w
    still_open (Some r) k first w = at (is_over now r.tries r.due) w
      where
        at : (t : Bool) → IsOpenIn (Held kind ttl until renew last (cond t None (Some r))) k first → (kind ≡ k) × (r.first ≡ first)
        at true v = elim v [ ]
        at false v = v

    go : (t : Bool) → NoNewClaim longest life clock replied (knows start (Held kind ttl until renew last pending)) (knows start (cond t (rested life now last) (Held kind ttl until renew last (pending_at now pending))))
    go true k end c = rested_claims now last k end c
    go false k end (has j e w) = has j e w
    go false k end (may_get j first moment r w a d) = may_get j first moment r (still_open pending j first w) a d
settled_claims {longest} {life} {clock} {start} {replied} now (Releasing kind last p) = go (is_over now p.tries p.due)
  where
    go : (t : Bool) → NoNewClaim longest life clock replied (knows start (Releasing kind last p)) (knows start (cond t (rested life now last) (Releasing kind last p)))
    go true = rested_claims now last
    go false = λ k end c. c
settled_claims now (Resting last) = rested_claims now last

-- ---- sendings: where a transaction opens, no reply is left that could answer it

none_left : {life number clock now start last : ℕ} {moment : Clocks} {asked replied : Clocks → MessageValue → Type 0} {s : State} {m : MessageValue} → last_of s start ≡ last → ArePast life number clock now asked
    → RepliesFresh life number clock now asked replied (knows start s) → last + quiet life < now → replied moment m → IsDeliverable life clock moment.clock → ⊥
none_left {moment = moment} {m = m} e past fresh over r d =
    let k = fresh.drawn moment m r d in
    let a = k.in_time in
    let b = k.known_of in
    let gone = (past k.sent k.request k.asked_is).rests (omega arith) in
    omega arith

sent_claims : {longest number clock : ℕ} {asked replied : Clocks → MessageValue → Type 0} {node : NodeValue} {now : ℕ} {name : NameValue} {s t : State} {event : NameEvent} {m : MessageValue} {told : Told} {next : ℕ}
    → Move node now name s event t (Some m) told next → ArePast node.config.life number clock now asked → RepliesFresh node.config.life number clock now asked replied (knows node.start s)
    → NoNewClaim longest node.config.life clock replied (knows node.start s) (knows node.start t)
sent_claims (asks kind ttl rested) past fresh k end (has j e w) = elim w [ ]
sent_claims (asks kind ttl rested) past fresh k end (may_get j first moment r w a d) =
    absurd (none_left refl past fresh rested a d)
sent_claims (gives_back kind ttl until renew last pending) past fresh k end (has j e w) = elim w [ ]
sent_claims (gives_back kind ttl until renew last pending) past fresh k end (may_get j first moment r w a d) = elim w [ ]
sent_claims (asks_again kind ttl last p next) past fresh k end (has j e w) = elim w [ ]
sent_claims (asks_again kind ttl last p next) past fresh k end (may_get j first moment r w a d) = may_get j first moment r w a d
sent_claims (gives_back_again kind last p next) past fresh k end (has j e w) = elim w [ ]
sent_claims (gives_back_again kind last p next) past fresh k end (may_get j first moment r w a d) = elim w [ ]
sent_claims (refreshes_again kind ttl until renew last p next) past fresh k end (has j e w) = has j e w
sent_claims (refreshes_again kind ttl until renew last p next) past fresh k end (may_get j first moment r w a d) = may_get j first moment r w a d
sent_claims (refreshes kind ttl until renew last due over) past fresh k end (has j e w) = has j e w
sent_claims (refreshes kind ttl until renew last due over) past fresh k end (may_get j first moment r w a d) =
    absurd (none_left refl past fresh over a d)

-- ---- replies: a hold is the claim that its reply was

-- what is heard, where it is a positive reply, is one of the list that may still be delivered
abbrev pub IsListed : (life clock : ℕ) → (Clocks → MessageValue → Type 0) → MessageValue → Type 0
IsListed life clock replied m = (r : Registration) → m ≡ registered 0 r → (moment : Clocks) × replied moment (registered 0 r) × IsDeliverable life clock moment.clock

heard_claims : {clock : ℕ} {replied : Clocks → MessageValue → Type 0} {node : NodeValue} {now : ℕ} {name : NameValue} {s t : State} {m : MessageValue} {told : Told} {next : ℕ}
    → Move node now name s (hear m) t None told next → IsListed node.config.life clock replied m
    → NoNewClaim node.config.longest node.config.life clock replied (knows node.start s) (knows node.start t)
heard_claims {clock} {replied} {node} (granted_to kind ttl last p r e) is k end (has j u w) =
    let l = is r refl in
    let was : IsOpen (knows node.start (Asking kind ttl last p)) j p.first = (w.0, refl) in
    subst (λ (x : ℕ). Claims node.config.longest node.config.life clock replied (knows node.start (Asking kind ttl last p)) j x) w.1 (may_get j p.first l.0 r was l.1 l.2)
heard_claims (granted_to kind ttl last p r e) is k end (may_get j f n x w a b) = elim w [ ]
heard_claims {clock} {replied} {node} (renewed_to kind ttl until renew last p r e) is k end (has j u w) =
    let l = is r refl in
    let was : IsOpen (knows node.start (Held kind ttl until renew last (Some p))) j p.first = (w.0, refl) in
    subst (λ (x : ℕ). Claims node.config.longest node.config.life clock replied (knows node.start (Held kind ttl until renew last (Some p))) j x) w.1 (may_get j p.first l.0 r was l.1 l.2)
heard_claims (renewed_to kind ttl until renew last p r e) is k end (may_get j f n x w a b) = elim w [ ]
heard_claims (refused_to kind ttl last rcode p r e ne) is k end (has j u w) = elim w [ ]
heard_claims (refused_to kind ttl last rcode p r e ne) is k end (may_get j f n x w a b) = elim w [ ]
heard_claims (loses_asked kind ttl last p r ne) is k end (has j u w) = elim w [ ]
heard_claims (loses_asked kind ttl last p r ne) is k end (may_get j f n x w a b) = elim w [ ]
heard_claims (loses_held kind ttl until renew last rcode pending r ne c) is k end (has j u w) = elim w [ ]
heard_claims (loses_held kind ttl until renew last rcode pending r ne c) is k end (may_get j f n x w a b) = elim w [ ]
heard_claims (freed kind last rcode p n q a) is k end (has j u w) = elim w [ ]
heard_claims (freed kind last rcode p n q a) is k end (may_get j f v x w b e) = elim w [ ]
heard_claims (asking_waits kind ttl last p n t) is k end (has j u w) = elim w [ ]
heard_claims (asking_waits kind ttl last p n t) is k end (may_get j f v x w a b) = may_get j f v x w a b
heard_claims (giving_back_waits kind last p n t) is k end (has j u w) = elim w [ ]
heard_claims (giving_back_waits kind last p n t) is k end (may_get j f v x w a b) = elim w [ ]
heard_claims (refresh_waits kind ttl until renew last p n t) is k end (has j u w) = has j u w
heard_claims (refresh_waits kind ttl until renew last p n t) is k end (may_get j f v x w a b) = may_get j f v x w a b
heard_claims (unmoved state message e) is k end c = c

-- ---- one name of one node

pub claims_as : {longest life clock start : ℕ} {replied : Clocks → MessageValue → Type 0} {s : State} (new : NodeValue) (q : NameValue) → new.start ≡ start → state_of new q ≡ s → NoNewClaim longest life clock replied (knows start s) (known (Some new) q)
claims_as {longest} {life} {clock} {replied = replied} {s = s} new q e f kind end c =
    subst (λ (x : ℕ). Claims longest life clock replied (knows x s) kind end) e (subst (λ (t : State). Claims longest life clock replied (knows new.start t) kind end) f c)

pub claims_by_time : {longest clock now : ℕ} {old new : NodeValue} {replied : Clocks → MessageValue → Type 0} → Stays old now new → (q : NameValue) → state_of new q ≡ state_at old now q
    → NoNewClaim longest old.config.life clock replied (known (Some old) q) (known (Some new) q)
claims_by_time {now = now} {old = old} {new = new} stays q state kind end c = settled_claims now (state_of old q) kind end (claims_as new q stays.start_is state kind end c)

-- the name about which a request was sent
pub claims_sends : {longest number clock now : ℕ} {old new : NodeValue} {name : NameValue} {event : NameEvent} {m : MessageValue} {told : Told} {asked replied : Clocks → MessageValue → Type 0} → Moved old now name event new (Some m) told
    → ArePast old.config.life number clock now asked → RepliesFresh old.config.life number clock now asked replied (known (Some old) name) → NoNewClaim longest old.config.life clock replied (known (Some old) name) (known (Some new) name)
claims_sends {now = now} {old = old} {new = new} {name = name} moved past fresh kind end c =
    settled_claims now (state_of old name) kind end
    (sent_claims moved.moves.move past (fresh-settled past fresh) kind end
    (settled_claims now moved.moves.after kind end (claims_as new name moved.stays.start_is moved.named kind end c)))

-- the name about which something was heard
pub claims_hears : {clock now : ℕ} {old new : NodeValue} {name : NameValue} {m : MessageValue} {told : Told} {replied : Clocks → MessageValue → Type 0} → Moved old now name (hear m) new None told
    → IsListed old.config.life clock replied m → NoNewClaim old.config.longest old.config.life clock replied (known (Some old) name) (known (Some new) name)
claims_hears {now = now} {old = old} {new = new} {name = name} moved listed kind end c =
    settled_claims now (state_of old name) kind end
    (heard_claims moved.moves.move listed kind end
    (settled_claims now moved.moves.after kind end (claims_as new name moved.stays.start_is moved.named kind end c)))
