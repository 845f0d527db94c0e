-- A node by another clock, which at each time shows a constant more: each of the node's times is greater by as much (our
-- profile).
use Rattle.std.specs.Prelude.{◌≡◌, ℕ, ◌+◌, List, map, Option}
use Rattle.std.specs.Option.{option_map}
use Rattle.nbt_name.specs.declared.addr.Addr.{Addr}
use Rattle.nbt_name.specs.Wire.{NameValue}
use Rattle.nbt_packet.specs.Message.{MessageValue}
use Rattle.nbt_lease.specs.Config.{ConfigValue}
use Rattle.nbt_node.specs.declared.lookup.Lookup.{Lookup}
use Rattle.nbt_node.specs.declared.lookup.Wanted.{Wanted}
use Rattle.nbt_node.specs.declared.state.Slot.{Slot}
use Rattle.nbt_node.specs.declared.state.State.{State}
use Rattle.nbt_node.specs.declared.state.State.TheVariants.{Idle, Asking, Held, Releasing, Resting}
use Rattle.nbt_node.specs.declared.transaction.Transaction.{Transaction}
use Rattle.nbt_node.specs.Node.{NodeValue, settled_node, holds, lookup_open}
use Rattle.nbt_node.specs.Moves.{NameEvent, Told, Move}
use Rattle.nbt_node.specs.Calls.{started_from, refreshing_soon, ask_refusal, release_refusal, resolve_refusal, status_refusal, Sends, Opens, Polls}
use Rattle.nbt_node.specs.Datagrams.{Handles}

-- ---- all of its times, `more` milliseconds greater

abbrev pub shifted_request : (more : ℕ) → Transaction → Transaction
shifted_request more p = record p { first = p.first + more; due = p.due + more }

abbrev pub shifted_state : (more : ℕ) → State → State
shifted_state more Idle = Idle
shifted_state more (Asking kind ttl last p) = Asking kind ttl (last + more) (shifted_request more p)
shifted_state more (Held kind ttl until renew last pending) = Held kind ttl (until + more) (renew + more) (last + more) (option_map (shifted_request more) pending)
shifted_state more (Releasing kind last p) = Releasing kind (last + more) (shifted_request more p)
shifted_state more (Resting last) = Resting (last + more)

abbrev pub shifted_slot : (more : ℕ) → Slot → Slot
shifted_slot more slot = record slot { state = shifted_state more slot.state }

abbrev pub shifted_slots : (more : ℕ) → List (Option Slot) → List (Option Slot)
shifted_slots more slots = map (option_map (shifted_slot more)) slots

abbrev pub shifted_lookup : (more : ℕ) → Lookup → Lookup
shifted_lookup more lookup = record lookup { due = lookup.due + more }

abbrev pub shifted_node : (more : ℕ) → NodeValue → NodeValue
shifted_node more node =
    record node { start = node.start + more; last = node.last + more; lookup = option_map (shifted_lookup more) node.lookup; slots = shifted_slots more node.slots }

-- ---- what is the same by both clocks

-- a node starts, and its names and lookup settle
abbrev pub StartsAlike : (more : ℕ) → Type 0
StartsAlike more = (slots : ℕ) (addr server : Addr) (config : ConfigValue) (now first_id : ℕ)
    → started_from slots addr server config (now + more) first_id ≡ shifted_node more (started_from slots addr server config now first_id)

abbrev pub SettlesAlike : (more : ℕ) → Type 0
SettlesAlike more = (node : NodeValue) (now : ℕ) → settled_node (shifted_node more node) (now + more) ≡ shifted_node more (settled_node node now)

-- one name: what time makes of its state, and each line of the table of moves
abbrev pub MovesAlike : (more : ℕ) → Type 0
MovesAlike more = (node : NodeValue) (now : ℕ) (name : NameValue) (before : State) (event : NameEvent) (after : State) (sent : Option MessageValue) (told : Told) (next_id : ℕ)
    → Move node now name before event after sent told next_id → Move (shifted_node more node) (now + more) name (shifted_state more before) event (shifted_state more after) sent told next_id

-- what a node knows: which names it holds, whether a lookup is open, and why a call is refused; and what it is with a refresh due
-- before its time
pub record TellsAlike (more : ℕ) (node : NodeValue) (now : ℕ) (name : NameValue) : Type 0 where
  pub held : holds (shifted_node more node) name (now + more) ≡ holds node name now
  pub lookup : lookup_open (shifted_node more node) (now + more) ≡ lookup_open node now
  pub ask : ask_refusal (shifted_node more node) (now + more) name ≡ ask_refusal node now name
  pub release : release_refusal (shifted_node more node) (now + more) name ≡ release_refusal node now name
  pub resolve : resolve_refusal (shifted_node more node) (now + more) name ≡ resolve_refusal node now name
  pub status : status_refusal (shifted_node more node) (now + more) ≡ status_refusal node now
  pub soon : refreshing_soon (shifted_node more node) name ≡ shifted_node more (refreshing_soon node name)

-- what a node does: the same octets are sent to the same endpoint, the same is reported, and the node afterwards is shifted too
pub record DoesAlike (more : ℕ) (old : NodeValue) (now : ℕ) (new : NodeValue) : Type 0 where
  pub sends : (name : NameValue) (event : NameEvent) (octets : List ℕ) → Sends old now name event new octets → Sends (shifted_node more old) (now + more) name event (shifted_node more new) octets
  pub opens : (name : NameValue) (to : Addr) (wanted : Wanted) (octets : List ℕ) → Opens old now name to wanted new octets → Opens (shifted_node more old) (now + more) name to wanted (shifted_node more new) octets
  pub polls : (to : Option Addr) (octets : List ℕ) → Polls old now new to octets → Polls (shifted_node more old) (now + more) (shifted_node more new) to octets
  -- the message that is sent back is the same too
  pub handles : (from : Addr) (octets : List ℕ) (told : Told) (out : List ℕ) (handled : Handles old now from octets new told out)
      → (alike : Handles (shifted_node more old) (now + more) from octets (shifted_node more new) told out) × (alike.sent ≡ handled.sent)
