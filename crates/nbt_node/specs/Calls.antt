-- What each call of a node does, on message values (our profile; RFC 1002 section 5.1).
use Rattle.std.specs.Prelude.{◌≡◌, ℕ, ◌+◌, Bool, true, false, ◌||◌, nat_lt, nat_le, is_some, if◌then◌else◌, List, [], ◌∷◌, map, replicate, Option, Some, None}
use Rattle.nbt_name.specs.declared.addr.Addr.{Addr}
use Rattle.nbt_name.specs.declared.addr.Kind.{Kind}
use Rattle.nbt_name.specs.Wire.{NameValue, is_star}
use Rattle.nbt_packet.specs.Message.{MessageValue, query, status_request}
use Rattle.nbt_packet.specs.Spelling.{AreWritten}
use Rattle.nbt_lease.specs.Config.{ConfigValue}
use Rattle.nbt_lease.specs.Drift.{quiet}
use Rattle.nbt_node.specs.declared.fault.AskFault.{AskFault}
use Rattle.nbt_node.specs.declared.fault.AskFault.TheVariants as asks
use Rattle.nbt_node.specs.declared.fault.ReleaseFault.{ReleaseFault}
use Rattle.nbt_node.specs.declared.fault.ReleaseFault.TheVariants as releases
use Rattle.nbt_node.specs.declared.fault.LookupFault.{LookupFault}
use Rattle.nbt_node.specs.declared.fault.LookupFault.TheVariants as lookups
use Rattle.nbt_node.specs.declared.lookup.Lookup.{Lookup}
use Rattle.nbt_node.specs.declared.lookup.Wanted.{Wanted}
use Rattle.nbt_node.specs.declared.lookup.Wanted.TheVariants.{Entries, Names}
use Rattle.nbt_node.specs.declared.state.State.{State}
use Rattle.nbt_node.specs.declared.state.State.TheVariants.{Asking, Held, Releasing, Resting}
use Rattle.nbt_node.specs.declared.state.Slot.{Slot}
use Rattle.nbt_node.specs.Node.{NodeValue, has_room, with_state, settled_slot, settled_lookup, settled_node, state_of, state_at, Passes}
use Rattle.nbt_node.specs.Transaction.{next_due, is_next}
use Rattle.nbt_node.specs.Moves.{NameEvent, poll, NameMoves, nothing, id_after, is_due}

-- a node that knows nothing, and whose first request has this id; or the id 1
abbrev pub started_from : (slots : ℕ) → Addr → Addr → ConfigValue → ℕ → (first_id : ℕ) → NodeValue
started_from slots addr server config now first_id =
    record { addr = addr; server = server; config = config; start = now; last = now; next_id = first_id; lookup = None; slots = replicate slots None }

abbrev pub started : (slots : ℕ) → Addr → Addr → ConfigValue → ℕ → NodeValue
started slots addr server config now = started_from slots addr server config now 1

-- ---- a refresh before its time: it is due since the last sending about the name, and so is sent once the name has rested

abbrev pub due_soon : State → State
due_soon (Held kind ttl until renew last pending) = Held kind ttl until last last pending
due_soon state = state

abbrev pub refreshing_soon : NodeValue → NameValue → NodeValue
refreshing_soon node name = record node { slots = with_state node.slots name (due_soon (state_of node name)) }

-- ---- why a call is refused: the first refusal that stands, judged by the settled node

abbrev pub is_busy : State → Bool
is_busy (Asking kind ttl last p) = true
is_busy (Held kind ttl until renew last pending) = true
is_busy state = false

abbrev pub is_quiet : State → Bool
is_quiet (Releasing kind last p) = true
is_quiet (Resting last) = true
is_quiet state = false

abbrev pub held_kind : State → Option Kind
held_kind (Held kind ttl until renew last pending) = Some kind
held_kind state = None

abbrev pub ask_refusal : NodeValue → ℕ → NameValue → Option AskFault
ask_refusal node now name =
    if nat_lt now node.last then Some asks.ClockBack
    else (if is_star name then Some asks.BadName
    else (if is_busy (state_at node now name) then Some asks.Busy
    else (if is_quiet (state_at node now name) || nat_le now (node.start + quiet node.config.life) then Some asks.Quiet
    else (if has_room (map (settled_slot node.config.life now) node.slots) then None else Some asks.Full))))

abbrev pub release_refusal : NodeValue → ℕ → NameValue → Option ReleaseFault
release_refusal node now name =
    if nat_lt now node.last then Some releases.ClockBack
    else (if is_some (held_kind (state_at node now name)) then None else Some releases.NotHeld)

abbrev pub is_open : NodeValue → ℕ → Bool
is_open node now = is_some (settled_lookup now node.lookup)

abbrev pub resolve_refusal : NodeValue → ℕ → NameValue → Option LookupFault
resolve_refusal node now name =
    if nat_lt now node.last then Some lookups.ClockBack
    else (if is_star name then Some lookups.BadName
    else (if is_open node now then Some lookups.Busy else None))

abbrev pub status_refusal : NodeValue → ℕ → Option LookupFault
status_refusal node now =
    if nat_lt now node.last then Some lookups.ClockBack
    else (if is_open node now then Some lookups.Busy else None)

-- ---- what is sent

-- A name moves by an event, and what is sent is written.
pub record Sends (old : NodeValue) (now : ℕ) (name : NameValue) (event : NameEvent) (new : NodeValue) (octets : List ℕ) : Type 0 where
  pub message : MessageValue
  pub moves : NameMoves old now name event new (Some message) nothing
  pub written : AreWritten (Some message) octets

-- ---- lookups

-- what a lookup asks (RFC 1002 sections 4.2.12 and 4.2.17)
abbrev pub question : Lookup → MessageValue
question l = question_of l.wanted l.id l.name
  where
    question_of : Wanted → ℕ → NameValue → MessageValue
    question_of Entries id name = query id name
    question_of Names id name = status_request id name

-- every name by time alone, and the lookup as it is now
abbrev pub LooksUp : NodeValue → ℕ → Option Lookup → (next_id : ℕ) → NodeValue → Type 0
LooksUp old now lookup next_id new = new ≡ record (settled_node old now) { lookup = lookup; next_id = next_id }

-- a lookup opens
pub record Opens (old : NodeValue) (now : ℕ) (name : NameValue) (to : Addr) (wanted : Wanted) (new : NodeValue) (octets : List ℕ) : Type 0 where
  pub opens : LooksUp old now (Some (record { id = old.next_id; name = name; to = to; wanted = wanted; tries = 1; due = next_due now })) (id_after old.next_id) new
  pub written : AreWritten (Some (question (record { id = old.next_id; name = name; to = to; wanted = wanted; tries = 1; due = next_due now }))) octets

-- ---- polls: the lowest slot that has something due, and the lookup last

abbrev pub first_due : (life now : ℕ) → List (Option Slot) → Option Slot
first_due life now [] = None
first_due life now (None ∷ rest) = first_due life now rest
first_due life now (Some slot ∷ rest) = if is_due life now slot.state then Some slot else first_due life now rest

abbrev pub slot_due : NodeValue → ℕ → Option Slot
slot_due node now = first_due node.config.life now (map (settled_slot node.config.life now) node.slots)

abbrev pub due_lookup : ℕ → Option Lookup → Option Lookup
due_lookup now None = None
due_lookup now (Some l) = if is_next now l.tries l.due then Some l else None

abbrev pub lookup_due : NodeValue → ℕ → Option Lookup
lookup_due node now = due_lookup now (settled_lookup now node.lookup)

pub data Polls (old : NodeValue) (now : ℕ) : NodeValue → Option Addr → List ℕ → Type 0 where
  polls_name : (slot : Slot) (new : NodeValue) (octets : List ℕ) → slot_due old now ≡ Some slot → Sends old now slot.name poll new octets → Polls old now new (Some old.server) octets
  polls_lookup : (l : Lookup) (new : NodeValue) (octets : List ℕ) → slot_due old now ≡ None → lookup_due old now ≡ Some l
      → LooksUp old now (Some (record l { tries = l.tries + 1; due = next_due now })) old.next_id new → AreWritten (Some (question l)) octets → Polls old now new (Some l.to) octets
  polls_nothing : (new : NodeValue) → slot_due old now ≡ None → lookup_due old now ≡ None → Passes old now new → Polls old now new None []
