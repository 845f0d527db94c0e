-- A node asks for a name, and holds it by the reply that grants it.
use Rattle.std.proofs.Common.{◌≡◌, ℕ, ◌+◌, ◌*◌, ◌<◌, ◌≤◌, true, [], Some, None, refl, sym, subst, arith}
use Rattle.std.proofs.lemmas.Bool.{eq-eqb, lt-ltb, lt-leb, le-ltb}
use Rattle.nbt_name.specs.declared.addr.Addr.{Addr}
use Rattle.nbt_name.specs.declared.addr.Kind.{Kind}
use Rattle.nbt_name.specs.Wire.{NameValue}
use Rattle.nbt_packet.specs.declared.message.Registration.{Registration}
use Rattle.nbt_packet.specs.Message.{registration, registered, IsRegistration}
use Rattle.nbt_packet.specs.Text.{text}
use Rattle.nbt_lease.specs.Drift.{hold}
use Rattle.nbt_node.specs.declared.state.State.{State}
use Rattle.nbt_node.specs.declared.state.State.TheVariants.{Asking, Held}
use Rattle.nbt_node.specs.declared.transaction.Transaction.{Transaction}
use Rattle.nbt_node.specs.Node.{NodeValue, AreDistinct, state_of, state_at, changed, holds, held_at}
use Rattle.nbt_node.specs.Settling.{settled}
use Rattle.nbt_node.specs.Transaction.{opened}
use Rattle.nbt_node.specs.Moves.{Move, NameMoves, ask, hear, nothing, is_granted, id_after, claim, granted_by, held_for, asks, granted_to}
use Rattle.nbt_node.specs.Calls.{ask_refusal, Sends}
use Rattle.nbt_node.specs.Datagrams.{same_end, from_server, spelled, Handles}
use Rattle.nbt_node.proofs.Moving.{MayAsk, may_ask, asked_is, known_is, moved_apart}
use Rattle.nbt_net.proofs.Granting.{WrittenIsRead, written, granted_positive}

-- ---- the request

-- what the node says of the name, and the node behind it
abbrev pub wish : NodeValue → NameValue → Kind → (ttl : ℕ) → Registration
wish node name kind ttl = claim node node.next_id name kind ttl

abbrev pub asked_node : NodeValue → (now : ℕ) → NameValue → Kind → (ttl : ℕ) → NodeValue
asked_node node now name kind ttl = changed node now name (Asking kind ttl now (opened node.next_id now)) (id_after node.next_id)

module _ (node : NodeValue) (now : ℕ) (name : NameValue) (kind : Kind) (ttl : ℕ) (may : ask_refusal node now name ≡ None) where
  allowed : MayAsk node now name
  allowed = may_ask node now name (sym may)

  asking : NameMoves node now name (ask kind ttl) (asked_node node now name kind ttl) (Some (registration (wish node name kind ttl))) nothing
  asking = record {
    after = Asking kind ttl now (opened node.next_id now);
    move = subst (λ (s : State). Move node now name s (ask kind ttl) (Asking kind ttl now (opened node.next_id now)) (Some (registration (wish node name kind ttl))) nothing (id_after node.next_id)) (sym allowed.idle) (asks kind ttl allowed.rested);
    node = refl;
  }

  pub sends_wish : WrittenIsRead → IsRegistration (wish node name kind ttl) → Sends node now name (ask kind ttl) (asked_node node now name kind ttl) (text (registration (wish node name kind ttl)))
  sends_wish law numbers = record { message = registration (wish node name kind ttl); moves = asking; written = (refl, written law (registration (wish node name kind ttl)) numbers tt) }

  pub asked_apart : AreDistinct node.slots → AreDistinct (asked_node node now name kind ttl).slots
  asked_apart = moved_apart node _ now name _ _ _ asking

  pub asked_state : AreDistinct node.slots → state_of (asked_node node now name kind ttl) name ≡ Asking kind ttl now (opened node.next_id now)
  unfolding asking
  asked_state apart = asked_is node _ now name _ _ _ asking apart allowed.room

-- ---- the reply

-- the node once it is granted what it asks for
abbrev pub granted_node : NodeValue → (now : ℕ) → Kind → (ttl last : ℕ) → Transaction → Registration → NodeValue
granted_node node now kind ttl last p r = changed node now r.name (held_for kind ttl p.first (granted_by node r) last) node.next_id

-- A node asks for this name, from now on, and this is the reply.
pub record Waits (node : NodeValue) (now : ℕ) (kind : Kind) (ttl last : ℕ) (p : Transaction) (r : Registration) : Type 0 where
  pub apart : AreDistinct node.slots
  pub was : state_at node now r.name ≡ Asking kind ttl last p
  pub first : p.first ≡ now
  pub id : r.id ≡ p.id
  pub longest : 1 ≤ node.config.longest

hold_positive : (seconds : ℕ) → 1 ≤ seconds → 0 < hold seconds
unfolding hold
hold_positive seconds le = omega arith

pub same_self : (a : Addr) → same_end a a ≡ true
same_self a = rw (eq-eqb a.ip a.ip refl, eq-eqb a.port a.port refl) refl

module _ (node : NodeValue) (now : ℕ) (kind : Kind) (ttl last : ℕ) (p : Transaction) (r : Registration) (waits : Waits node now kind ttl last p r) where
  granting : NameMoves node now r.name (hear (registered 0 r)) (granted_node node now kind ttl last p r) None (is_granted (granted_by node r))
  granting = record {
    after = held_for kind ttl p.first (granted_by node r) last;
    move = subst (λ (s : State). Move node now r.name s (hear (registered 0 r)) (held_for kind ttl p.first (granted_by node r) last) None (is_granted (granted_by node r)) node.next_id) (sym waits.was) (granted_to kind ttl last p r waits.id);
    node = refl;
  }

  pub hears_grant : WrittenIsRead → IsRegistration r → Handles node now node.server (text (registered 0 r)) (granted_node node now kind ttl last p r) (is_granted (granted_by node r)) []
  hears_grant law numbers = record {
    sent = None;
    takes = spelled (registered 0 r) (granted_node node now kind ttl last p r) None (is_granted (granted_by node r)) (written law (registered 0 r) numbers (omega arith)) (from_server _ (is_granted (granted_by node r)) (same_self node.server) granting);
    written = refl;
  }

  pub holds_granted : holds (granted_node node now kind ttl last p r) r.name now ≡ Some kind
  unfolding granting
  holds_granted =
      let some = hold_positive (granted_by node r) (granted_positive node.config.longest r.ttl waits.longest) in
      rw (le-ltb now now (omega arith), known_is node _ now r.name _ _ _ granting waits.apart (λ k t e. cc), waits.first)
      (held_now node.config.life now (now + hold (granted_by node r)) (now + 500 * granted_by node r) last ttl kind (omega arith))
    where
      held_now : (life now until renew last ttl : ℕ) (kind : Kind) → now < until → held_at now (settled life now (Held kind ttl until renew last None)) ≡ Some kind
      held_now life now until renew last ttl kind lt = rw (lt-leb until now lt, lt-ltb now until lt) refl
