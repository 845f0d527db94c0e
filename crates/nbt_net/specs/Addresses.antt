-- A name server with several addresses of its own, of which each host asks one at a time (our profile). The wire has each of them as the first.
use Rattle.std.specs.Prelude.{◌≡◌, ◌⊎◌, ℕ, suc, if◌then◌else◌, List, [], ◌++◌, map, Option, Some, None}
use Rattle.nbt_name.specs.declared.addr.Addr.{Addr}
use Rattle.nbt_name.specs.Wire.{NameValue}
use Rattle.nbt_lease.specs.Config.{ConfigValue}
use Rattle.nbt_node.specs.Node.{NodeValue}
use Rattle.nbt_node.specs.Datagrams.{same_end}
use Rattle.nbt_port.specs.PortCalls.{PortCall, nothing_came, came, receive_failed, sent, send_failed, Chain}
use Rattle.nbt_world.specs.declared.ends.Ends.{Ends}
use Rattle.nbt_world.specs.World.{WorldValue, IsFresh, IsOfEnd, addr_of}
use Rattle.nbt_net.specs.Wire.{Act, Happening, acts_of, WireRun}
use Rattle.nbt_net.specs.Servers.{ServerEnd, never_up, ServerLives}
use Rattle.nbt_net.specs.Hosts.{HostLives}
use Rattle.nbt_net.specs.Lives.{Network, holds_now}

-- an address of the server's own: the first, or one that has no end's 32 bits
abbrev pub IsServers : Ends → Addr → Type 0
IsServers ends addr = (addr ≡ ends.server_addr) ⊎ (¬ IsOfEnd ends addr.ip)

-- ---- how the wire has what a host does

-- The address that the host asks is the first there, and the first is that one: they change places. So what comes to a host from the first, where it asks
-- another, comes from no end's address.
abbrev pub as_first : (first asked : Addr) → Addr → Addr
as_first first asked addr = if same_end addr asked then first else (if same_end addr first then asked else addr)

abbrev pub call_as : (Addr → Addr) → PortCall → PortCall
call_as reads nothing_came = nothing_came
call_as reads (came from octets) = came (record from { peer = reads from.peer }) octets
call_as reads receive_failed = receive_failed
call_as reads (sent to octets) = sent (record to { peer = reads to.peer }) octets
call_as reads (send_failed to octets) = send_failed (record to { peer = reads to.peer }) octets

abbrev pub act_as : (Addr → Addr) → Act → Act
act_as reads act = record act { calls = map (call_as reads) act.calls }

abbrev pub acts_as : (Addr → Addr) → List Act → List Act
acts_as reads acts = map (act_as reads) acts

-- The lives of a host, one after another, with its acts as the wire has them. In each it asks one of the server's addresses. All but the last are up to
-- a crash.
pub data LivesOn (config : ConfigValue) (ends : Ends) (at : Addr) : (on_wire : List Act) → Option NodeValue → Type 0 where
  never_lived : LivesOn config ends at [] None
  lives : (asked : Addr) (before acts : List Act) (node : Option NodeValue) → IsServers ends asked → LivesOn config ends at before None → Chain (HostLives config asked at) None acts node
      → LivesOn config ends at (before ++ acts_as (as_first ends.server_addr asked) acts) node

-- ---- a network

-- A network, but that each host asks one of the server's addresses in each of its lives. So what comes to it from there was sent by the server, from any
-- of its own, or moves no name: nobody forges it. What comes to it from another of them may be anything, as from a stranger. What comes to the server from
-- a host was sent to the one that this host asked, or moves no name. The server's acts are as they are, whichever own addresses their routes name.
pub record NetworkOfSeveralAddresses (config : ConfigValue) (addrs : List Addr) (happenings : List Happening) (now : WorldValue) (server : ServerEnd) (hosts : ℕ → Option NodeValue) : Type 0 where
  pub first : WorldValue
  pub fresh : IsFresh config addrs first
  pub wires : List WorldValue
  pub goes : WireRun happenings first wires now
  pub server_lives : Chain (ServerLives config) never_up (acts_of 0 happenings) server
  pub hosts_live : (index : ℕ) (at : Addr) → addr_of first.ends (suc index) ≡ Some at → LivesOn config first.ends at (acts_of (suc index) happenings) (hosts index)

-- the same names are held by both
abbrev pub HoldSame : WorldValue → (hosts others : ℕ → Option NodeValue) → Type 0
HoldSame now hosts others = (index : ℕ) (name : NameValue) → holds_now now hosts index name ≡ holds_now now others index name

-- It is a network in which all hosts ask the first address.
pub record IsAsWithOne (config : ConfigValue) (addrs : List Addr) (happenings : List Happening) (now : WorldValue) (server : ServerEnd) (hosts : ℕ → Option NodeValue) : Type 0 where
  pub others : ℕ → Option NodeValue
  pub net : Network config addrs happenings now server others
  pub hold_same : HoldSame now hosts others

-- And so is a network one in which the hosts lived at these addresses.
pub record IsAsWithSeveral (config : ConfigValue) (addrs : List Addr) (asked : ℕ → Addr) (happenings : List Happening) (now : WorldValue) (server : ServerEnd) (hosts : ℕ → Option NodeValue) : Type 0 where
  pub others : ℕ → Option NodeValue
  pub net : NetworkOfSeveralAddresses config addrs happenings now server others
  pub asks : (index : ℕ) (at : Addr) → addr_of net.first.ends (suc index) ≡ Some at → (acts : List Act) × Chain (HostLives config (asked index) at) None acts (others index)
  pub hold_same : HoldSame now hosts others
