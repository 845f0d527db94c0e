-- That a host of a network gets a free name (our profile).
use Rattle.std.specs.Prelude.{◌≡◌, ◌≢◌, ℕ, suc, List, [], ◌∷◌, ◌++◌, true, slice_get, Option, Some, IsTrue}
use Rattle.nbt_name.specs.declared.addr.Addr.{Addr}
use Rattle.nbt_packet.specs.declared.message.Registration.{Registration}
use Rattle.nbt_packet.specs.Message.{MessageValue, registration, registered, IsRegistration}
use Rattle.nbt_packet.specs.Text.{text}
use Rattle.nbt_lease.specs.Config.{ConfigValue, IsConfig, granted}
use Rattle.nbt_server.specs.Serving.{ServerValue, IsOwn}
use Rattle.nbt_node.specs.Node.{NodeValue, holds}
use Rattle.nbt_port.specs.PortCalls.{PortCall, came, sent, route_to, Chain}
use Rattle.nbt_client.specs.declared.turning.Want.{Want}
use Rattle.nbt_serve.specs.Serving.{is_taken, Turns}
use Rattle.nbt_host.specs.declared.goal.Goal.{Goal}
use Rattle.nbt_host.specs.declared.news.Notice.{Notice}
use Rattle.nbt_host.specs.Hosting.{is_wanted, Requests, HostHears}
use Rattle.nbt_world.specs.Drift.{reading}
use Rattle.nbt_world.specs.World.{WorldValue, AreAddrs, addr_of, with_node}
use Rattle.nbt_world.specs.Getting.{CanGet}
use Rattle.nbt_net.specs.Wire.{Happening, acts, acts_of}
use Rattle.nbt_net.specs.Hosts.{HostLives}
use Rattle.nbt_net.specs.Servers.{ServerEnd, up, ServerLives}
use Rattle.nbt_net.specs.Lives.{Network, holds_now}
use Rattle.nbt_net.specs.Reaching.{with_end}

-- ---- from nothing

-- All at one time the host sends a registration, the server receives it and sends its grant of so many seconds, and the host receives that
abbrev pub getting : (wire : WorldValue) → (index : ℕ) → (at : Addr) → Registration → (seconds : ℕ) → List Happening
getting wire index at r seconds =
    acts (suc index) (record { now = reading wire.now (suc index); calls = sent (route_to wire.ends.server_addr) (text (registration r)) ∷ [] })
    ∷ acts 0 (record { now = reading wire.now 0; calls = came (route_to at) (text (registration r)) ∷ sent (route_to at) (text (registered 0 (record r { ttl = seconds }))) ∷ [] })
    ∷ acts (suc index) (record { now = reading wire.now (suc index); calls = came (route_to wire.ends.server_addr) (text (registered 0 (record r { ttl = seconds }))) ∷ [] }) ∷ []

-- After all that happened before, these three acts happen, and then the host holds the name. But for what was sent the wire stays as it is.
pub record Gets (config : ConfigValue) (addrs : List Addr) (before : List Happening) (wire : WorldValue) (index : ℕ) (at : Addr) (r : Registration) : Type 0 where
  pub now : WorldValue
  pub server : ServerEnd
  pub hosts : ℕ → Option NodeValue
  pub net : Network config addrs (before ++ getting wire index at r (granted config.longest r.ttl)) now server hosts
  pub stays : now ≡ record wire { sent = now.sent }
  pub holds_it : holds_now now hosts index r.name ≡ Some r.kind

-- From nothing each host gets each name that doesn't begin with `*` and that it registers for its own address, and all clocks have kept the drift
-- bound.
abbrev pub NewNetworkGets : Type 0
NewNetworkGets = (config : ConfigValue) (addrs : List Addr) (index : ℕ) (at : Addr) (r : Registration) → IsConfig config → AreAddrs addrs → slice_get addrs (suc index) ≡ Some at → IsRegistration r → IsOwn at.ip r.name r.addr
    → (before : List Happening) × (wire : WorldValue) × IsTrue wire.kept × Gets config addrs before wire index at r

-- ---- in any network

-- the world of a wire, where this is the server, and this the host of this place
abbrev pub world_with : (wire : WorldValue) → ServerValue → (index : ℕ) → NodeValue → WorldValue
world_with wire server index node = record wire { ends = with_node (with_end wire.ends (up server)) (suc index) (Some node) }

-- In a network whose server is up a host is up too, and can get a name. By this registration it requests the name next: it has the host's address and its next id.
pub record HostCanGet (config : ConfigValue) (addrs : List Addr) (before : List Happening) (wire : WorldValue) (server : ServerValue) (hosts : ℕ → Option NodeValue) (index : ℕ) (at : Addr) (node : NodeValue) (r : Registration) : Type 0 where
  pub are_addrs : AreAddrs addrs
  pub net : Network config addrs before wire (up server) hosts
  pub host_at : addr_of wire.ends (suc index) ≡ Some at
  pub host_is : hosts index ≡ Some node
  pub can : CanGet (world_with wire server index node) (suc index) r.name
  pub numbers : IsRegistration r
  pub addr_is : r.addr ≡ at.ip
  pub id_is : r.id ≡ node.next_id

-- This network goes on by these acts, and then the host holds the name. Its first wire stays. Its server and the host go on from what they were. Each
-- other host is as it was.
pub record GoesOnSo {config : ConfigValue} {addrs : List Addr} {before : List Happening} {wire : WorldValue} {server : ServerValue} {hosts : ℕ → Option NodeValue} (net : Network config addrs before wire (up server) hosts) (index : ℕ) (at : Addr) (node : NodeValue) (r : Registration) : Type 0 where
  pub gets : Gets config addrs before wire index at r
  pub first_stays : gets.net.first ≡ net.first
  pub server_goes_on : Chain (ServerLives config) (up server) (acts_of 0 (getting wire index at r (granted config.longest r.ttl))) gets.server
  pub host_goes_on : Chain (HostLives config wire.ends.server_addr at) (Some node) (acts_of (suc index) (getting wire index at r (granted config.longest r.ttl))) (gets.hosts index)
  pub others_stay : (other : ℕ) → other ≢ index → gets.hosts other ≡ hosts other

-- So does each network in which a host can get a name.
abbrev pub NetworkGets : Type 0
NetworkGets = (config : ConfigValue) (addrs : List Addr) (before : List Happening) (wire : WorldValue) (server : ServerValue) (hosts : ℕ → Option NodeValue) (index : ℕ) (at : Addr) (node : NodeValue) (r : Registration)
    → (can : HostCanGet config addrs before wire server hosts index at node r) → GoesOnSo can.net index at node r

-- what a host wants that sends this registration
abbrev pub wanted_by : Registration → Want
wanted_by r = record { name = r.name; kind = r.kind; ttl = r.ttl }

-- The server replied, and whatever the reply makes of the host that hears it at this moment, the host holds the name.
pub record IsGot (wire : WorldValue) (index : ℕ) (asked : NodeValue) (r : Registration) (reply : Option MessageValue) : Type 0 where
  pub message : MessageValue
  pub reply_is : reply ≡ Some message
  pub holds_it : (calls : List PortCall) (notice : Option Notice) (new : NodeValue)
      → HostHears wire.ends.server_addr (reading wire.now (suc index)) asked (came (route_to wire.ends.server_addr) (text message) ∷ calls) notice new → holds new r.name (reading wire.now (suc index)) ≡ Some r.kind

-- Where the host requests the name, the server's next turn takes that, and the host hears the reply, all at this moment, nothing else can come of it:
-- whatever the request makes of the host, and whatever the turn makes of the server, the reply gives the host the name. A turn in which memory is refused
-- takes nothing.
abbrev pub RequestGets : Type 0
RequestGets = (config : ConfigValue) (addrs : List Addr) (before : List Happening) (wire : WorldValue) (server : ServerValue) (hosts : ℕ → Option NodeValue) (index : ℕ) (at : Addr) (node : NodeValue) (r : Registration)
    → HostCanGet config addrs before wire server hosts index at node r
    → (goal : Goal) (octets : List ℕ) (asked : NodeValue) → goal.want ≡ wanted_by r → is_wanted goal.stage ≡ true → Requests (reading wire.now (suc index)) node goal (Some octets) asked
    → (reply : Option MessageValue) (after : ServerValue) → Turns server (is_taken (reading wire.now 0) (route_to at) octets reply) after → IsGot wire index asked r reply
