-- A node as contracts see it: what it knows of each name, and its lookup (our profile; RFC 1001 section 15.2).
use Rattle.std.specs.Prelude.{◌≡◌, ℕ, Bool, false, ◌||◌, nat_lt, is_some, is_none, if◌then◌else◌, List, [], ◌∷◌, map, Option, Some, None}
use Rattle.std.specs.List.{list_any}
use Rattle.nbt_name.specs.declared.addr.Addr.{Addr}
use Rattle.nbt_name.specs.declared.addr.Kind.{Kind}
use Rattle.nbt_name.specs.Wire.{NameValue, same_name}
use Rattle.nbt_lease.specs.Config.{ConfigValue}
use Rattle.nbt_node.specs.declared.state.State.{State}
use Rattle.nbt_node.specs.declared.state.State.TheVariants.{Idle, Held}
use Rattle.nbt_node.specs.declared.state.Slot.{Slot}
use Rattle.nbt_node.specs.declared.lookup.Lookup.{Lookup}
use Rattle.nbt_node.specs.Transaction.{is_over}
use Rattle.nbt_node.specs.Settling.{settled}

-- Its own address and its server's, the limits, its start, the time of the last call that wasn't refused (its start,
-- before the first), the id that comes next, the lookup that is open, and the slots: each is free or has a name.
pub record NodeValue : Type 0 where
  pub addr : Addr
  pub server : Addr
  pub config : ConfigValue
  pub start : ℕ
  pub last : ℕ
  pub next_id : ℕ
  pub lookup : Option Lookup
  pub slots : List (Option Slot)

-- ---- slots

abbrev pub is_named : Option Slot → NameValue → Bool
is_named None name = false
is_named (Some slot) name = same_name slot.name name

abbrev pub is_in : List (Option Slot) → NameValue → Bool
is_in [] name = false
is_in (None ∷ rest) name = is_in rest name
is_in (Some slot ∷ rest) name = same_name slot.name name || is_in rest name

abbrev pub has_room : List (Option Slot) → Bool
has_room slots = list_any is_none slots

-- no name has two slots
abbrev pub AreDistinct : List (Option Slot) → Type 0
AreDistinct [] = Unit {0}
AreDistinct (None ∷ rest) = AreDistinct rest
AreDistinct (Some slot ∷ rest) = (is_in rest slot.name ≡ false) × AreDistinct rest

-- a name that has no slot is Idle
abbrev pub state_in : List (Option Slot) → NameValue → State
state_in [] name = Idle
state_in (None ∷ rest) name = state_in rest name
state_in (Some slot ∷ rest) name = if same_name slot.name name then slot.state else state_in rest name

-- a name that is Idle has no slot
abbrev pub slot_of : NameValue → State → Option Slot
slot_of name Idle = None
slot_of name state = Some (record { name = name; state = state })

-- another state in the name's own slot, and in the lowest free slot
abbrev pub put : List (Option Slot) → NameValue → State → List (Option Slot)
put [] name state = []
put (None ∷ rest) name state = None ∷ put rest name state
put (Some slot ∷ rest) name state = if same_name slot.name name then slot_of name state ∷ rest else Some slot ∷ put rest name state

abbrev pub take_slot : List (Option Slot) → NameValue → State → List (Option Slot)
take_slot [] name state = []
take_slot (None ∷ rest) name state = slot_of name state ∷ rest
take_slot (Some slot ∷ rest) name state = Some slot ∷ take_slot rest name state

-- the slots once a name has this state
abbrev pub with_state : List (Option Slot) → NameValue → State → List (Option Slot)
with_state slots name state = if is_in slots name then put slots name state else take_slot slots name state

-- the most slots of a node
abbrev pub slots_most : ℕ
slots_most = 14

-- ---- time

abbrev pub settled_slot : (life now : ℕ) → Option Slot → Option Slot
settled_slot life now None = None
settled_slot life now (Some slot) = slot_of slot.name (settled life now slot.state)

abbrev pub settled_lookup : (now : ℕ) → Option Lookup → Option Lookup
settled_lookup now None = None
settled_lookup now (Some l) = if is_over now l.tries l.due then None else Some l

-- every name and the lookup at a time
abbrev pub settled_node : NodeValue → ℕ → NodeValue
settled_node node now = record node { last = now; lookup = settled_lookup now node.lookup; slots = map (settled_slot node.config.life now) node.slots }

-- ---- one name

-- once a name has moved to a state at a time, which settles then
abbrev pub changed : NodeValue → ℕ → NameValue → State → (next_id : ℕ) → NodeValue
changed node now name after next_id =
    record (settled_node node now) { next_id = next_id; slots = with_state (map (settled_slot node.config.life now) node.slots) name (settled node.config.life now after) }

abbrev pub state_of : NodeValue → NameValue → State
state_of node name = state_in node.slots name

-- at a time
abbrev pub state_at : NodeValue → ℕ → NameValue → State
state_at node now name = settled node.config.life now (state_of node name)

abbrev pub held_at : ℕ → State → Option Kind
held_at now (Held kind ttl until renew last pending) = if nat_lt now until then Some kind else None
held_at now _ = None

-- the kind as which the node holds a name at a time; at a time before its last it holds none
abbrev pub holds : NodeValue → NameValue → ℕ → Option Kind
holds node name now = if nat_lt now node.last then None else held_at now (state_of node name)

abbrev pub lookup_open : NodeValue → ℕ → Bool
lookup_open node now = if nat_lt now node.last then false else is_some (settled_lookup now node.lookup)

-- only time has passed
abbrev pub Passes : NodeValue → ℕ → NodeValue → Type 0
Passes old now new = new ≡ settled_node old now
