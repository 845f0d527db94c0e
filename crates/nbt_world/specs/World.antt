-- The world: all ends, the network between them, the true clock, and what each end reads (our profile).
use Rattle.std.specs.Prelude.{◌≡◌, ℕ, ◌+◌, ◌≤◌, Bool, IsTrue, zero, suc, List, [], ◌∷◌, length, map, slice_get, Option, Some, None}
use Rattle.std.specs.Option.{option_map, option_or}
use Rattle.nbt_name.specs.declared.addr.Addr.{Addr}
use Rattle.nbt_lease.specs.Config.{ConfigValue}
use Rattle.nbt_server.specs.Serving.{ServerValue}
use Rattle.nbt_server.specs.Calls.{limited}
use Rattle.nbt_node.specs.Node.{NodeValue}
use Rattle.nbt_world.specs.declared.clocks.Clocks.{Clocks}
use Rattle.nbt_world.specs.declared.clocks.Least.{Least}
use Rattle.nbt_world.specs.declared.ends.NodeEnd.{NodeEnd}
use Rattle.nbt_world.specs.declared.ends.Ends.{Ends}
use Rattle.nbt_world.specs.declared.network.Datagram.{Datagram}
use Rattle.nbt_world.specs.Drift.{reading, least_of, numbers_of}

-- The clocks, the limits, the server and the nodes, each with its address and what it is while it is up, every datagram
-- that was ever sent, in order, the least numbers of each end so far, whether the readings kept the drift bound, and whether
-- they were timely.
pub record WorldValue : Type 0 where
  pub now : Clocks
  pub config : ConfigValue
  pub ends : Ends
  pub sent : List Datagram
  pub least : List Least
  pub kept : Bool
  pub timely : Bool

-- ---- ends: 0 is the server, and the nodes are numbered from 1

abbrev pub addr_at : List NodeEnd → (index : ℕ) → Option Addr
addr_at nodes index = option_map (λ end. end.addr) (slice_get nodes index)

abbrev pub addr_of : Ends → ℕ → Option Addr
addr_of ends zero = Some ends.server_addr
addr_of ends (suc index) = addr_at ends.nodes.items index

abbrev pub node_in : Option NodeEnd → Option NodeValue
node_in None = None
node_in (Some end) = end.node

-- there is an end of this number
abbrev pub IsEnd : Ends → (number : ℕ) → Type 0
IsEnd ends number = (addr : Addr) × (addr_of ends number ≡ Some addr)

-- the node of this number, where there is one and it is up
abbrev pub node_of : Ends → ℕ → Option NodeValue
node_of ends zero = None
node_of ends (suc index) = node_in (slice_get ends.nodes.items index)

-- some end has this 32-bit address
abbrev pub IsOfEnd : Ends → (ip : ℕ) → Type 0
IsOfEnd ends ip = (number : ℕ) × (addr : Addr) × (addr_of ends number ≡ Some addr) × (addr.ip ≡ ip)

-- ---- changes of one thing, all else as it was

abbrev pub with_server : Ends → (server crashed : Option ServerValue) → Ends
with_server ends server crashed = record ends { server = server; crashed = crashed }

-- the server, where it is up, with so many live leases at most for each client
abbrev pub with_limit : Ends → (rows : ℕ) → Ends
with_limit ends rows = record ends { server = option_map (limited (Some rows)) ends.server }

-- the server, or, while it is down, what it was when it crashed
abbrev pub latest : Ends → Option ServerValue
latest ends = option_or ends.server ends.crashed

abbrev pub put_node : List NodeEnd → ℕ → Option NodeValue → List NodeEnd
put_node [] index value = []
put_node (end ∷ ends) zero value = record end { node = value } ∷ ends
put_node (end ∷ ends) (suc index) value = end ∷ put_node ends index value

-- the node of this number is now this, or down
abbrev pub with_node : Ends → ℕ → Option NodeValue → Ends
with_node ends zero value = ends
with_node ends (suc index) value = record ends { nodes = record { items = put_node ends.nodes.items index value } }

-- ---- the network

abbrev pub datagram : (from to : Addr) → (moment : Clocks) → List ℕ → Datagram
datagram from to moment octets = record { from = from; to = to; moment = moment; octets = record { items = octets } }

-- A datagram may be delivered until the greatest life has passed since it was sent, by the true clock, any number of
-- times.
abbrev pub IsDeliverable : (life now : ℕ) → (sent : ℕ) → Type 0
IsDeliverable life now sent = now ≤ sent + life

-- ---- the beginning

-- one of the addresses has these 32 bits, and no two have the same
abbrev pub IsAmong : (ip : ℕ) → List Addr → Type 0
IsAmong ip addrs = (index : ℕ) × (addr : Addr) × (slice_get addrs index ≡ Some addr) × (addr.ip ≡ ip)

abbrev pub AreApart : List Addr → Type 0
AreApart addrs = (i j : ℕ) (a b : Addr) → slice_get addrs i ≡ Some a → slice_get addrs j ≡ Some b → a.ip ≡ b.ip → i ≡ j

-- the most nodes of a world
abbrev pub nodes_most : ℕ
nodes_most = 8

-- The server's address and those of one node at least, no two of which are equal in their 32 bits.
pub record AreAddrs (addrs : List Addr) : Type 0 where
  pub ends_at_least : 2 ≤ length addrs
  pub ends_at_most : length addrs ≤ nodes_most + 1
  pub apart : AreApart addrs

-- ends at these addresses, which are all down
abbrev pub ends_at : Addr → List Addr → Ends
ends_at server others = record { server_addr = server; server = None; crashed = None; nodes = record { items = map (λ addr. record { addr = addr; node = None }) others } }

-- all ends are down, all clocks are at 0, and no datagram was sent
pub record IsFresh (config : ConfigValue) (addrs : List Addr) (world : WorldValue) : Type 0 where
  pub now : world.now.clock ≡ 0
  pub readings : (number : ℕ) → reading world.now number ≡ 0
  pub least : (number : ℕ) → IsEnd world.ends number → least_of world.least number ≡ numbers_of world.now number
  pub kept : IsTrue world.kept
  pub timely : IsTrue world.timely
  pub config_is : world.config ≡ config
  pub addrs_are : (number : ℕ) → addr_of world.ends number ≡ slice_get addrs number
  pub no_server : world.ends.server ≡ None
  pub none_crashed : world.ends.crashed ≡ None
  pub no_node : (number : ℕ) → node_of world.ends number ≡ None
  pub nothing_sent : world.sent ≡ []
