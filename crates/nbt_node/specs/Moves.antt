-- The moves of one name at a node: what events make of its state, what is sent, and what is reported to the node's user
-- (RFC 1001 section 15.2, RFC 1002 section 5.1.2; the states and timers are our profile's).
use Rattle.std.specs.Prelude.{◌≡◌, ◌≢◌, ℕ, ◌+◌, ◌*◌, ◌<◌, ◌≤◌, Bool, true, false, ◌&&◌, ◌||◌, nat_eq, nat_lt, nat_le, if◌then◌else◌, ◌⊎◌, List, Option, Some, None}
use Rattle.nbt_name.specs.declared.addr.Kind.{Kind}
use Rattle.nbt_name.specs.Wire.{NameValue}
use Rattle.nbt_packet.specs.declared.message.Registration.{Registration}
use Rattle.nbt_packet.specs.Message.{MessageValue, registration, refresh, release, registered, released, wait}
use Rattle.nbt_lease.specs.Config.{granted}
use Rattle.nbt_lease.specs.Drift.{hold, quiet}
use Rattle.nbt_node.specs.declared.event.Event.{Event}
use Rattle.nbt_node.specs.declared.event.Event.TheVariants as e
use Rattle.nbt_node.specs.declared.state.State.{State}
use Rattle.nbt_node.specs.declared.state.State.TheVariants.{Idle, Asking, Held, Releasing, Resting}
use Rattle.nbt_node.specs.declared.transaction.Transaction.{Transaction}
use Rattle.nbt_node.specs.Transaction.{is_next, opened, again, put_off, wait_until}
use Rattle.nbt_node.specs.Node.{NodeValue, state_at, changed}

-- what happens to a name: it is registered, released or polled, or the server says something about it
pub data NameEvent : Type 0 where
  ask : Kind → (ttl : ℕ) → NameEvent
  give_back : NameEvent
  poll : NameEvent
  hear : MessageValue → NameEvent

-- what is reported to the node's user
pub data Told : Type 0 where
  nothing : Told
  replied : Told
  is_granted : (seconds : ℕ) → Told
  is_renewed : (seconds : ℕ) → Told
  is_refused : (rcode : ℕ) → Told
  is_lost : Told
  is_freed : (rcode : ℕ) → Told
  waits : Told
  finds : (entries : List ℕ) (cut : Bool) → Told
  finds_none : Told
  lists : (names : List ℕ) → Told

abbrev pub told_of : Event → Told
told_of e.Nothing = nothing
told_of e.Reply = replied
told_of (e.Granted seconds) = is_granted seconds
told_of (e.Renewed seconds) = is_renewed seconds
told_of (e.Refused rcode) = is_refused rcode
told_of e.Lost = is_lost
told_of (e.Freed rcode) = is_freed rcode
told_of e.Wait = waits
told_of (e.Found entries cut) = finds entries.now cut
told_of e.NotFound = finds_none
told_of (e.Status names) = lists names.now

-- 0 follows 65,535
abbrev pub id_after : ℕ → ℕ
id_after id = if nat_eq id 65535 then 0 else id + 1

-- a name has something to send: a request once more, or a refresh
abbrev pub is_due : (life now : ℕ) → State → Bool
is_due life now (Asking kind ttl last p) = is_next now p.tries p.due
is_due life now (Releasing kind last p) = is_next now p.tries p.due
is_due life now (Held kind ttl until renew last None) = nat_le renew now && nat_lt (last + quiet life) now
is_due life now (Held kind ttl until renew last (Some p)) = is_next now p.tries p.due
is_due life now Idle = false
is_due life now (Resting last) = false

-- what a node says of a name in a request
abbrev pub claim : NodeValue → (id : ℕ) → NameValue → Kind → (ttl : ℕ) → Registration
claim node id name kind ttl = record { id = id; name = name; kind = kind; addr = node.addr.ip; ttl = ttl }

-- the RCODE of a conflict demand (RFC 1002 section 4.2.8)
abbrev pub conflict : ℕ
conflict = 7

-- the reply has the id of the pending request, or is a conflict demand to a name that is being registered or held
abbrev pub has_id : Option Transaction → ℕ → Bool
has_id None id = false
has_id (Some p) id = nat_eq id p.id

abbrev pub matters : State → MessageValue → Bool
matters (Asking kind ttl last p) (registered rcode r) = nat_eq r.id p.id || nat_eq rcode conflict
matters (Asking kind ttl last p) (wait w n t) = nat_eq w p.id
matters (Held kind ttl until renew last pending) (registered rcode r) = has_id pending r.id || nat_eq rcode conflict
matters (Held kind ttl until renew last pending) (wait w n t) = has_id pending w
matters (Releasing kind last p) (released w rcode n k a) = nat_eq w p.id
matters (Releasing kind last p) (wait w n t) = nat_eq w p.id
matters state message = false

-- the seconds that a positive reply grants, and a hold for them: it is counted from the transaction's first sending, and
-- refreshed after half of them
abbrev pub granted_by : NodeValue → Registration → ℕ
granted_by node r = granted node.config.longest r.ttl

abbrev pub held_for : Kind → (ttl first seconds last : ℕ) → State
held_for kind ttl first seconds last = Held kind ttl (first + hold seconds) (first + 500 * seconds) last None

-- The table: a state, an event, the state afterwards, what is sent to the server, what is reported, and the next id.
pub data Move (node : NodeValue) (now : ℕ) (name : NameValue) : State → NameEvent → State → Option MessageValue → Told → ℕ → Type 0 where
  asks : (kind : Kind) (ttl : ℕ) → node.start + quiet node.config.life < now
      → Move node now name Idle (ask kind ttl) (Asking kind ttl now (opened node.next_id now)) (Some (registration (claim node node.next_id name kind ttl))) nothing (id_after node.next_id)
  gives_back : (kind : Kind) (ttl until renew last : ℕ) (pending : Option Transaction)
      → Move node now name (Held kind ttl until renew last pending) give_back (Releasing kind now (opened node.next_id now)) (Some (release node.next_id name kind node.addr.ip)) nothing (id_after node.next_id)
  -- a sending that is due: the same request once more, or a refresh
  asks_again : (kind : Kind) (ttl last : ℕ) (p : Transaction) → is_next now p.tries p.due ≡ true
      → Move node now name (Asking kind ttl last p) poll (Asking kind ttl now (again now p)) (Some (registration (claim node p.id name kind ttl))) nothing node.next_id
  gives_back_again : (kind : Kind) (last : ℕ) (p : Transaction) → is_next now p.tries p.due ≡ true
      → Move node now name (Releasing kind last p) poll (Releasing kind now (again now p)) (Some (release p.id name kind node.addr.ip)) nothing node.next_id
  refreshes_again : (kind : Kind) (ttl until renew last : ℕ) (p : Transaction) → is_next now p.tries p.due ≡ true
      → Move node now name (Held kind ttl until renew last (Some p)) poll (Held kind ttl until renew now (Some (again now p))) (Some (refresh (claim node p.id name kind ttl))) nothing node.next_id
  refreshes : (kind : Kind) (ttl until renew last : ℕ) → renew ≤ now → last + quiet node.config.life < now
      → Move node now name (Held kind ttl until renew last None) poll (Held kind ttl until renew now (Some (opened node.next_id now))) (Some (refresh (claim node node.next_id name kind ttl))) nothing (id_after node.next_id)
  -- a reply of the server
  granted_to : (kind : Kind) (ttl last : ℕ) (p : Transaction) (r : Registration) → r.id ≡ p.id
      → Move node now name (Asking kind ttl last p) (hear (registered 0 r)) (held_for kind ttl p.first (granted_by node r) last) None (is_granted (granted_by node r)) node.next_id
  renewed_to : (kind : Kind) (ttl until renew last : ℕ) (p : Transaction) (r : Registration) → r.id ≡ p.id
      → Move node now name (Held kind ttl until renew last (Some p)) (hear (registered 0 r)) (held_for kind ttl p.first (granted_by node r) last) None (is_renewed (granted_by node r)) node.next_id
  refused_to : (kind : Kind) (ttl last rcode : ℕ) (p : Transaction) (r : Registration) → r.id ≡ p.id → rcode ≢ 0
      → Move node now name (Asking kind ttl last p) (hear (registered rcode r)) (Resting last) None (is_refused rcode) node.next_id
  loses_asked : (kind : Kind) (ttl last : ℕ) (p : Transaction) (r : Registration) → r.id ≢ p.id
      → Move node now name (Asking kind ttl last p) (hear (registered conflict r)) (Resting last) None is_lost node.next_id
  loses_held : (kind : Kind) (ttl until renew last rcode : ℕ) (pending : Option Transaction) (r : Registration) → rcode ≢ 0 → (has_id pending r.id ≡ true) ⊎ (rcode ≡ conflict)
      → Move node now name (Held kind ttl until renew last pending) (hear (registered rcode r)) (Resting last) None is_lost node.next_id
  freed : (kind : Kind) (last rcode : ℕ) (p : Transaction) (n : NameValue) (k : Kind) (a : ℕ)
      → Move node now name (Releasing kind last p) (hear (released p.id rcode n k a)) (Resting last) None (is_freed rcode) node.next_id
  asking_waits : (kind : Kind) (ttl last : ℕ) (p : Transaction) (n : NameValue) (t : ℕ)
      → Move node now name (Asking kind ttl last p) (hear (wait p.id n t)) (Asking kind ttl last (put_off (wait_until now t) p)) None waits node.next_id
  giving_back_waits : (kind : Kind) (last : ℕ) (p : Transaction) (n : NameValue) (t : ℕ)
      → Move node now name (Releasing kind last p) (hear (wait p.id n t)) (Releasing kind last (put_off (wait_until now t) p)) None waits node.next_id
  refresh_waits : (kind : Kind) (ttl until renew last : ℕ) (p : Transaction) (n : NameValue) (t : ℕ)
      → Move node now name (Held kind ttl until renew last (Some p)) (hear (wait p.id n t)) (Held kind ttl until renew last (Some (put_off (wait_until now t) p))) None waits node.next_id
  unmoved : (state : State) (message : MessageValue) → matters state message ≡ false → Move node now name state (hear message) state None nothing node.next_id

-- One name moves, from its state at this time; what comes of it is settled once more. Every other name and the lookup
-- change by time alone. This time is then the last one; nothing else changes but the next id.
pub record NameMoves (old : NodeValue) (now : ℕ) (name : NameValue) (event : NameEvent) (new : NodeValue) (sent : Option MessageValue) (told : Told) : Type 0 where
  pub after : State
  pub move : Move old now name (state_at old now name) event after sent told new.next_id
  pub node : new ≡ changed old now name after new.next_id
