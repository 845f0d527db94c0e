-- A network of programs, each of which lives its own life, and what holds of it.
use Rattle.std.specs.Prelude.{◌≡◌, ◌≢◌, ℕ, suc, List, Option, Some, None}
use Rattle.nbt_name.specs.declared.addr.Addr.{Addr}
use Rattle.nbt_name.specs.declared.addr.Kind.{Kind}
use Rattle.nbt_name.specs.declared.addr.Kind.TheVariants.{Group}
use Rattle.nbt_name.specs.Wire.{NameValue}
use Rattle.nbt_lease.specs.Config.{ConfigValue}
use Rattle.nbt_node.specs.Node.{NodeValue}
use Rattle.nbt_port.specs.PortCalls.{Chain}
use Rattle.nbt_world.specs.declared.ends.Ends.{Ends}
use Rattle.nbt_world.specs.declared.network.Datagram.{Datagram}
use Rattle.nbt_world.specs.Drift.{reading}
use Rattle.nbt_world.specs.World.{WorldValue, IsFresh, addr_of, node_of}
use Rattle.nbt_world.specs.Safety.{held_by}
use Rattle.nbt_net.specs.Wire.{Happening, acts_of, WireRun}
use Rattle.nbt_net.specs.Servers.{ServerEnd, never_up, ServerLives}
use Rattle.nbt_net.specs.Hosts.{HostLives}
use Rattle.nbt_net.specs.Reaching.{Reaches}

-- From a wire on which nothing happened yet all this happened, up to now. The server did what it did by its own life, and so did each
-- host; that is what the server is now, and these are the nodes of the hosts that are up, at places where there is a host.
pub record Network (config : ConfigValue) (addrs : List Addr) (happenings : List Happening) (now : WorldValue) (server : ServerEnd) (hosts : ℕ → Option NodeValue) : Type 0 where
  pub first : WorldValue
  pub fresh : IsFresh config addrs first
  pub wires : List WorldValue
  pub goes : WireRun happenings first wires now
  pub server_lives : Chain (ServerLives config) never_up (acts_of 0 happenings) server
  pub hosts_live : (index : ℕ) (at : Addr) → addr_of first.ends (suc index) ≡ Some at → Chain (HostLives config first.ends.server_addr at) None (acts_of (suc index) happenings) (hosts index)

-- as which kind the host of this place holds the name now, by its own clock
abbrev pub holds_now : WorldValue → (hosts : ℕ → Option NodeValue) → (index : ℕ) → NameValue → Option Kind
holds_now now hosts index name = held_by (hosts index) name (reading now.now (suc index))

-- No two hosts hold one name, unless both as a group.
abbrev pub NoTwoHold : WorldValue → (hosts : ℕ → Option NodeValue) → Type 0
NoTwoHold now hosts = (name : NameValue) (i j : ℕ) (at to : Addr) (k l : Kind) → i ≢ j → addr_of now.ends (suc i) ≡ Some at → addr_of now.ends (suc j) ≡ Some to
    → holds_now now hosts i name ≡ Some k → holds_now now hosts j name ≡ Some l → (k ≡ Group) × (l ≡ Group)

-- From the network's first wire a world can be reached that has the wire's clocks and addresses, and the hosts as its nodes. Of its server
-- and of what was sent it says nothing.
pub record NetworkIsARun (first now : WorldValue) (hosts : ℕ → Option NodeValue) : Type 0 where
  pub ends : Ends
  pub sent : List Datagram
  pub reached : Reaches first (record now { ends = ends; sent = sent })
  pub addrs_are : (number : ℕ) → addr_of ends number ≡ addr_of now.ends number
  pub nodes_are : (index : ℕ) (at : Addr) → addr_of now.ends (suc index) ≡ Some at → node_of ends (suc index) ≡ hosts index
