-- What follows from the facts that every world keeps, in the words in which it is told (docs/NO_TWO_HOLDERS.md): leases
-- are sound; and where the readings kept the drift bound, claims are covered by leases or by the silence, what is open is
-- fresh, and old requests have ended.
use Rattle.std.specs.Prelude.{◌≡◌, ◌≢◌, ℕ, ◌+◌, ◌*◌, ◌<◌, ◌≤◌, Some, None}
use Rattle.nbt_name.specs.declared.addr.Addr.{Addr}
use Rattle.nbt_name.specs.declared.addr.Kind.{Kind}
use Rattle.nbt_name.specs.declared.addr.Kind.TheVariants.{Group}
use Rattle.nbt_name.specs.Wire.{NameValue}
use Rattle.nbt_packet.specs.Message.{MessageValue}
use Rattle.nbt_lease.specs.Drift.{hold, quiet}
use Rattle.nbt_lease.specs.Lease.{leases_at, IsSound}
use Rattle.nbt_server.specs.Serving.{ServerValue, speaks_from}
use Rattle.nbt_node.specs.declared.state.State.TheVariants.{Idle}
use Rattle.nbt_node.specs.Node.{NodeValue, state_of}
use Rattle.nbt_world.specs.declared.clocks.Clocks.{Clocks}
use Rattle.nbt_world.specs.Drift.{reading}
use Rattle.nbt_world.specs.World.{WorldValue, IsDeliverable, addr_of, node_of, latest}
use Rattle.nbt_world.specs.Inner.Kept.{Asked, Replied, AsksAs, DrawnBy, known, last_sending, Wants, IsOpen, IsLeased, ClaimsIn}

-- ---- leases

-- The live leases of the server are sound, also while it is down.
abbrev pub LeasesAreSound : WorldValue → Type 0
LeasesAreSound world = (server : ServerValue) → latest world.ends ≡ Some server → IsSound world.config (reading world.now 0) (leases_at (reading world.now 0) server.table.rows)

-- ---- claims

-- A live lease of this address and kind lasts until then, as the server reads, or its silence does, also while it is down.
pub data CoversIn (world : WorldValue) (addr : Addr) (name : NameValue) (kind : Kind) (till : ℕ) : Type 0 where
  by_lease : (server : ServerValue) → latest world.ends ≡ Some server → IsLeased (leases_at (reading world.now 0) server.table.rows name) addr.ip kind till → CoversIn world addr name kind till
  by_silence : (server : ServerValue) → latest world.ends ≡ Some server → till ≤ speaks_from server → CoversIn world addr name kind till
  never_up : latest world.ends ≡ None → CoversIn world addr name kind till

-- A claim that isn't over, as its node reads, is covered: from some moment at which the server replied, it ends no later
-- than the node may hold for some seconds, and what covers it lasts for as many, as the server reads; they end no later than
-- a silence that would begin now.
abbrev pub ClaimsAreCovered : WorldValue → Type 0
ClaimsAreCovered world = (number : ℕ) (addr : Addr) (name : NameValue) (kind : Kind) (end : ℕ) → addr_of world.ends number ≡ Some addr → ClaimsIn world number addr name kind end → reading world.now number < end
    → (moment : Clocks) × (seconds : ℕ) × (end ≤ reading moment number + hold seconds) × CoversIn world addr name kind (reading moment 0 + 1000 * seconds)
    × (reading moment 0 + 1000 * seconds ≤ reading world.now 0 + 1000 * world.config.longest)

-- Two claims of different nodes on one name, neither of which is over, are both of a group.
abbrev pub ClaimsAreOfGroups : WorldValue → Type 0
ClaimsAreOfGroups world = (i j : ℕ) (a b : Addr) (name : NameValue) (k l : Kind) (d e : ℕ) → i ≢ j → addr_of world.ends i ≡ Some a → addr_of world.ends j ≡ Some b → ClaimsIn world i a name k d → reading world.now i < d
    → ClaimsIn world j b name l e → reading world.now j < e → (k ≡ Group) × (l ≡ Group)

-- ---- requests and replies that may still be delivered

abbrev pub AskedIn : WorldValue → Addr → NameValue → (moment : Clocks) → MessageValue → Type 0
AskedIn world addr name moment message = Asked world.sent addr.ip name moment message × IsDeliverable world.config.life world.now.clock moment.clock

abbrev pub RepliedIn : WorldValue → Addr → NameValue → (moment : Clocks) → MessageValue → Type 0
RepliedIn world addr name moment message = Replied world.sent world.ends.server_addr addr name moment message × IsDeliverable world.config.life world.now.clock moment.clock

-- the name is Idle, and the node has rested after its start
abbrev pub IsRested : WorldValue → (number : ℕ) → NameValue → Type 0
IsRested world number name = (node : NodeValue) × (node_of world.ends number ≡ Some node) × (state_of node name ≡ Idle) × (node.start + quiet world.config.life < reading world.now number)

-- No request or reply that may still be delivered is older than what is open, as the node reads, and each such request asks
-- for its kind. A reply comes no later than a life, by the true clock, after some request that was sent no later than the
-- last sending that the node knows of. None is left of a name that has rested.
pub record OpenIsFresh (world : WorldValue) (number : ℕ) (addr : Addr) (name : NameValue) : Type 0 where
  pub one_kind : (kind : Kind) (first : ℕ) (moment : Clocks) (message : MessageValue) → IsOpen (known (node_of world.ends number) name) kind first → AskedIn world addr name moment message → AsksAs kind message
  pub asked_since : (kind : Kind) (first : ℕ) (moment : Clocks) (message : MessageValue) → IsOpen (known (node_of world.ends number) name) kind first → AskedIn world addr name moment message → first ≤ reading moment number
  pub replied_since : (kind : Kind) (first : ℕ) (moment : Clocks) (message : MessageValue) → IsOpen (known (node_of world.ends number) name) kind first → RepliedIn world addr name moment message → first ≤ reading moment number
  pub in_time : (moment : Clocks) (message : MessageValue) → RepliedIn world addr name moment message
      → DrawnBy world.config.life number (reading world.now number) (Asked world.sent addr.ip name) (known (node_of world.ends number) name) moment
  pub no_reply : (moment : Clocks) (message : MessageValue) → IsRested world number name → RepliedIn world addr name moment message → ⊥

-- A request was sent no later than the last sending that the node knows of, as it reads. None is left of a name that has
-- rested, and no release of one that the node asks for or holds: each asks for its kind.
pub record RequestsHaveEnded (world : WorldValue) (number : ℕ) (addr : Addr) (name : NameValue) : Type 0 where
  pub by_last : (moment : Clocks) (message : MessageValue) → AskedIn world addr name moment message → reading moment number ≤ last_sending (reading world.now number) (known (node_of world.ends number) name)
  pub no_request : (moment : Clocks) (message : MessageValue) → IsRested world number name → AskedIn world addr name moment message → ⊥
  pub no_release : (kind : Kind) (moment : Clocks) (message : MessageValue) → Wants (known (node_of world.ends number) name) kind → AskedIn world addr name moment message → AsksAs kind message
