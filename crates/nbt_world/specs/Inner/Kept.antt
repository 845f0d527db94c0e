-- The facts that every world keeps, and that carry the proof of its safety. Those of one node and one name speak of the
-- true clock, of what the node reads, of what the network has about them, and of what the node knows of the name, and of
-- nothing else. They are kept while the drift bound is.
use Rattle.std.specs.Prelude.{◌≡◌, ◌≢◌, ℕ, ◌+◌, ◌*◌, ◌<◌, ◌≤◌, ◌⊎◌, IsTrue, List, length, Option, Some, None, Contains}
use Rattle.nbt_name.specs.declared.addr.Addr.{Addr}
use Rattle.nbt_name.specs.declared.addr.Kind.{Kind}
use Rattle.nbt_name.specs.declared.addr.Kind.TheVariants.{Group}
use Rattle.nbt_name.specs.Wire.{NameValue}
use Rattle.nbt_packet.specs.declared.message.Registration.{Registration}
use Rattle.nbt_packet.specs.Message.{MessageValue, registration, overwrite, refresh, release, registered, released}
use Rattle.nbt_packet.specs.Text.{text}
use Rattle.nbt_packet.specs.Spelling.{Spells}
use Rattle.nbt_lease.specs.declared.lease.Lease.{Lease}
use Rattle.nbt_lease.specs.Config.{granted, last_moment}
use Rattle.nbt_lease.specs.Drift.{hold}
use Rattle.nbt_lease.specs.Lease.{leases_at, IsSound}
use Rattle.nbt_server.specs.Serving.{ServerValue, speaks_from}
use Rattle.nbt_node.specs.declared.state.State.{State}
use Rattle.nbt_node.specs.declared.state.State.TheVariants.{Idle, Asking, Held, Releasing, Resting}
use Rattle.nbt_node.specs.Node.{NodeValue, AreDistinct, state_of}
use Rattle.nbt_world.specs.declared.clocks.Clocks.{Clocks}
use Rattle.nbt_world.specs.declared.clocks.Least.{Least}
use Rattle.nbt_world.specs.declared.ends.Ends.{Ends}
use Rattle.nbt_world.specs.declared.network.Datagram.{Datagram}
use Rattle.nbt_world.specs.Drift.{reading, ahead, behind, least_of, IsAllowed, IsAllowedTimely}
use Rattle.nbt_world.specs.World.{WorldValue, nodes_most, IsDeliverable, addr_of, IsEnd, node_of, latest}

-- ---- what the network has of one node and one name

-- a request about the name: a registration, a refresh or a release
abbrev pub IsRequest : NameValue → MessageValue → Type 0
IsRequest name (registration r) = r.name ≡ name
IsRequest name (refresh r) = r.name ≡ name
IsRequest name (release id n kind addr) = n ≡ name
IsRequest name _ = ⊥

-- one that asks for it as this kind
abbrev pub AsksAs : Kind → MessageValue → Type 0
AsksAs kind (registration r) = r.kind ≡ kind
AsksAs kind (refresh r) = r.kind ≡ kind
AsksAs kind _ = ⊥

-- The network has a request about the name from this 32-bit address, sent at this moment.
pub record Asked (sent : List Datagram) (ip : ℕ) (name : NameValue) (moment : Clocks) (message : MessageValue) : Type 0 where
  pub datagram : Datagram
  pub among : Contains sent datagram
  pub sender : datagram.from.ip ≡ ip
  pub moment_is : datagram.moment ≡ moment
  pub spelled : Spells datagram.octets.items message
  pub request : IsRequest name message

-- what the server says of a registration, a refresh or a release about the name
abbrev pub IsReply : NameValue → MessageValue → Type 0
IsReply name (registered rcode r) = r.name ≡ name
IsReply name (released id rcode n kind addr) = n ≡ name
IsReply name _ = ⊥

-- The network has such a reply from the server's address to this one, sent at this moment.
pub record Replied (sent : List Datagram) (server to : Addr) (name : NameValue) (moment : Clocks) (message : MessageValue) : Type 0 where
  pub datagram : Datagram
  pub among : Contains sent datagram
  pub sender : datagram.from ≡ server
  pub receiver : datagram.to ≡ to
  pub moment_is : datagram.moment ≡ moment
  pub spelled : Spells datagram.octets.items message
  pub reply : IsReply name message

-- ---- what a node knows of one name

-- when it started, and the name's state; nothing where it is down
pub record Known : Type 0 where
  pub start : ℕ
  pub state : State

abbrev pub known : Option NodeValue → NameValue → Option Known
known None name = None
known (Some node) name = Some (record { start = node.start; state = state_of node name })

-- the last sending about the name that it knows of, or its start
abbrev pub last_of : State → (start : ℕ) → ℕ
last_of Idle start = start
last_of (Asking kind ttl last p) start = last
last_of (Held kind ttl until renew last pending) start = last
last_of (Releasing kind last p) start = last
last_of (Resting last) start = last

-- while it is down: what it reads now
abbrev pub last_sending : (now : ℕ) → Option Known → ℕ
last_sending now None = now
last_sending now (Some k) = last_of k.state k.start

-- the kind as which the node asks for the name or holds it
abbrev pub WantsIn : State → Kind → Type 0
WantsIn (Asking k ttl last p) kind = k ≡ kind
WantsIn (Held k ttl until renew last pending) kind = k ≡ kind
WantsIn _ kind = ⊥

abbrev pub Wants : Option Known → Kind → Type 0
Wants None kind = ⊥
Wants (Some k) kind = WantsIn k.state kind

-- a registration or a refresh is open, of this kind and first sent at this moment
abbrev pub IsOpenIn : State → Kind → (first : ℕ) → Type 0
IsOpenIn (Asking k ttl last p) kind first = (k ≡ kind) × (p.first ≡ first)
IsOpenIn (Held k ttl until renew last (Some p)) kind first = (k ≡ kind) × (p.first ≡ first)
IsOpenIn _ kind first = ⊥

abbrev pub IsOpen : Option Known → Kind → (first : ℕ) → Type 0
IsOpen None kind first = ⊥
IsOpen (Some k) kind first = IsOpenIn k.state kind first

-- held as this kind until this end
abbrev pub HoldsIn : State → Kind → (end : ℕ) → Type 0
HoldsIn (Held k ttl until renew last pending) kind end = (k ≡ kind) × (until ≡ end)
HoldsIn _ kind end = ⊥

abbrev pub Holds : Option Known → Kind → (end : ℕ) → Type 0
Holds None kind end = ⊥
Holds (Some k) kind end = HoldsIn k.state kind end

-- What a node may claim of a name: as which kind, and until which end. It holds it so, or gets it so for what it has
-- open, by a positive reply that may still be delivered.
pub data Claims (longest life clock : ℕ) (replied : Clocks → MessageValue → Type 0) (k : Option Known) : Kind → (end : ℕ) → Type 0 where
  has : (kind : Kind) (end : ℕ) → Holds k kind end → Claims longest life clock replied k kind end
  may_get : (kind : Kind) (first : ℕ) (moment : Clocks) (r : Registration) → IsOpen k kind first → replied moment (registered 0 r) → IsDeliverable life clock moment.clock
      → Claims longest life clock replied k kind (first + hold (granted longest r.ttl))

-- ---- what the server has for it

-- one of these leases is of this address and kind, and lasts until then
pub record IsLeased (leases : List Lease) (ip : ℕ) (kind : Kind) (till : ℕ) : Type 0 where
  pub end : ℕ
  pub among : Contains leases (record { addr = ip; kind = kind; end = end })
  pub lasts : till ≤ end

-- A live lease of this address lasts until then, or the server's silence does. One that never was up will be silent.
abbrev pub Covers : (now : ℕ) → Option ServerValue → (ip : ℕ) → NameValue → Kind → (till : ℕ) → Type 0
Covers now None ip name kind till = Unit {0}
Covers now (Some server) ip name kind till = IsLeased (leases_at now server.table.rows name) ip kind till ⊎ (till ≤ speaks_from server)

-- A claim is covered: the server sent some reply about the name, and for some seconds the claim ends no later than the
-- node may hold from what it read then, and a lease, or the silence, lasts as long from what the server read then.
pub record IsCovered (longest number : ℕ) (replied : Clocks → MessageValue → Type 0) (backs : Kind → ℕ → Type 0) (kind : Kind) (end : ℕ) : Type 0 where
  pub moment : Clocks
  pub message : MessageValue
  pub replied_is : replied moment message
  pub seconds : ℕ
  pub within : seconds ≤ longest
  pub counted : end ≤ reading moment number + hold seconds
  pub backed : backs kind (reading moment 0 + 1000 * seconds)

-- ---- what holds of one node and one name

-- Old requests have ended: one that may still be delivered was sent no later than the node knows of, by its reading, and
-- where it asks for the name or holds it, it asks for it as that kind, and is no release.
pub record RequestsEnded (life number clock now : ℕ) (asked : Clocks → MessageValue → Type 0) (k : Option Known) : Type 0 where
  pub ended : (moment : Clocks) (message : MessageValue) → asked moment message → IsDeliverable life clock moment.clock → reading moment number ≤ last_sending now k
  pub one_kind : (kind : Kind) (moment : Clocks) (message : MessageValue) → Wants k kind → asked moment message → IsDeliverable life clock moment.clock → AsksAs kind message

-- A reply was sent at this moment, no more than a life after some request that the node knows of.
pub record DrawnBy (life number now : ℕ) (asked : Clocks → MessageValue → Type 0) (k : Option Known) (moment : Clocks) : Type 0 where
  pub sent : Clocks
  pub request : MessageValue
  pub asked_is : asked sent request
  pub in_time : moment.clock ≤ sent.clock + life
  pub known_of : reading sent number ≤ last_sending now k

-- What is open is fresh: each reply that may still be delivered was sent no more than a life after some request that the
-- node knows of; what is open was first sent by now, and no request or reply that may still be delivered is older.
pub record RepliesFresh (life number clock now : ℕ) (asked replied : Clocks → MessageValue → Type 0) (k : Option Known) : Type 0 where
  pub drawn : (moment : Clocks) (message : MessageValue) → replied moment message → IsDeliverable life clock moment.clock → DrawnBy life number now asked k moment
  pub begun : (kind : Kind) (first : ℕ) → IsOpen k kind first → first ≤ now
  pub since : (kind : Kind) (first : ℕ) (moment : Clocks) (message : MessageValue) → IsOpen k kind first → asked moment message ⊎ replied moment message → IsDeliverable life clock moment.clock
      → first ≤ reading moment number

-- ---- what holds of the ends and of the network

-- one server and one node at least, no two ends with one 32-bit address
pub record AreEnds (ends : Ends) : Type 0 where
  pub nodes_at_least : 1 ≤ length ends.nodes.items
  pub nodes_at_most : length ends.nodes.items ≤ nodes_most
  pub apart : (i j : ℕ) (a b : Addr) → addr_of ends i ≡ Some a → addr_of ends j ≡ Some b → a.ip ≡ b.ip → i ≡ j

-- a node that is up has the world's addresses and limits, and wasn't called later than it reads now
pub record IsNodeOf (world : WorldValue) (number : ℕ) (addr : Addr) (node : NodeValue) : Type 0 where
  pub addr_is : node.addr ≡ addr
  pub server_is : node.server ≡ world.ends.server_addr
  pub config_is : node.config ≡ world.config
  pub distinct : AreDistinct node.slots
  pub past : node.last ≤ reading world.now number

-- The server, also while it is down, has the world's life and longest lease, and sound leases, none of which ends later than
-- the longest lease from what it reads now. It may have another number of rows.
pub record IsServerOf (world : WorldValue) (server : ServerValue) : Type 0 where
  pub life_is : server.table.config.life ≡ world.config.life
  pub longest_is : server.table.config.longest ≡ world.config.longest
  pub past : server.last ≤ reading world.now 0
  pub sound : IsSound world.config (reading world.now 0) (leases_at (reading world.now 0) server.table.rows)

-- A moment is not later than now, and the least numbers of an end are no greater than its numbers then.
pub record IsSeen (least : List Least) (now moment : Clocks) (number : ℕ) : Type 0 where
  pub read : reading moment number ≤ reading now number
  pub least_ahead : (least_of least number).ahead ≤ ahead moment number
  pub least_behind : (least_of least number).behind ≤ behind moment number

-- No clock is past its last moment, the numbers of each end now are no less than its least, and allowed beside them where
-- the bound is kept, or where the readings are timely, as they are where the bound is kept.
pub record AreRead (world : WorldValue) : Type 0 where
  pub now : world.now.clock ≤ last_moment
  pub readings : (number : ℕ) → IsEnd world.ends number → reading world.now number ≤ last_moment
  pub seen : (number : ℕ) → IsEnd world.ends number → IsSeen world.least world.now world.now number
  pub allowed : IsTrue world.kept → (number : ℕ) → IsEnd world.ends number → IsAllowed (least_of world.least number) world.now number
  pub allowed_timely : IsTrue world.timely → (number : ℕ) → IsEnd world.ends number → IsAllowedTimely (least_of world.least number) world.now number
  pub kept_timely : IsTrue world.kept → IsTrue world.timely

-- Each datagram was sent by an end, not later than now, and is the written form of a message that it spells, and no
-- other; and no end overwrites.
pub record IsSent (ends : Ends) (now : Clocks) (least : List Least) (d : Datagram) : Type 0 where
  pub number : ℕ
  pub message : MessageValue
  pub past : d.moment.clock ≤ now.clock
  pub seen : (n : ℕ) → IsEnd ends n → IsSeen least now d.moment n
  pub sender : addr_of ends number ≡ Some d.from
  pub written : d.octets.items ≡ text message
  pub spelled : Spells d.octets.items message
  pub only : (m : MessageValue) → Spells d.octets.items m → m ≡ message
  pub no_overwrite : (r : Registration) → message ≡ overwrite r → ⊥

-- ---- what holds of claims

-- what the node of this number and address claims in a world, and that such a claim is covered there
abbrev pub ClaimsIn : WorldValue → (number : ℕ) → Addr → NameValue → Kind → (end : ℕ) → Type 0
ClaimsIn world number addr name = Claims world.config.longest world.config.life world.now.clock (Replied world.sent world.ends.server_addr addr name) (known (node_of world.ends number) name)

abbrev pub IsCoveredIn : WorldValue → (number : ℕ) → Addr → NameValue → Kind → (end : ℕ) → Type 0
IsCoveredIn world number addr name = IsCovered world.config.longest number (Replied world.sent world.ends.server_addr addr name) (Covers (reading world.now 0) (latest world.ends) addr.ip name)

-- Each claim that isn't over, by its node's reading, is covered, and two of different nodes are both of a group.
pub record ClaimsKept (world : WorldValue) : Type 0 where
  pub covered : (number : ℕ) (addr : Addr) (name : NameValue) (kind : Kind) (end : ℕ) → addr_of world.ends number ≡ Some addr → ClaimsIn world number addr name kind end → reading world.now number < end
      → IsCoveredIn world number addr name kind end
  pub beside : (i j : ℕ) (a b : Addr) (name : NameValue) (k l : Kind) (d e : ℕ) → i ≢ j → addr_of world.ends i ≡ Some a → addr_of world.ends j ≡ Some b
      → ClaimsIn world i a name k d → reading world.now i < d → ClaimsIn world j b name l e → reading world.now j < e → (k ≡ Group) × (l ≡ Group)

-- ---- what every world keeps

pub record Invariant (world : WorldValue) : Type 0 where
  pub ends : AreEnds world.ends
  pub clocks : AreRead world
  pub nodes : (number : ℕ) (addr : Addr) (node : NodeValue) → addr_of world.ends number ≡ Some addr → node_of world.ends number ≡ Some node → IsNodeOf world number addr node
  pub server : (server : ServerValue) → latest world.ends ≡ Some server → IsServerOf world server
  pub sent : (d : Datagram) → Contains world.sent d → IsSent world.ends world.now world.least d
  -- where the readings were timely so far
  pub requests : IsTrue world.timely → (number : ℕ) (addr : Addr) (name : NameValue) → addr_of world.ends number ≡ Some addr
      → RequestsEnded world.config.life number world.now.clock (reading world.now number) (Asked world.sent addr.ip name) (known (node_of world.ends number) name)
  pub replies : IsTrue world.timely → (number : ℕ) (addr : Addr) (name : NameValue) → addr_of world.ends number ≡ Some addr
      → RepliesFresh world.config.life number world.now.clock (reading world.now number) (Asked world.sent addr.ip name) (Replied world.sent world.ends.server_addr addr name) (known (node_of world.ends number) name)
  pub claims : IsTrue world.timely → ClaimsKept world
