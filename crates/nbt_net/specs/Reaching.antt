-- What leads from one world to another: events, and what its facts don't speak of.
use Rattle.std.specs.Prelude.{◌≡◌, ℕ, suc, List, ◌++◌, ◌⊎◌, Option, Some, Contains}
use Rattle.nbt_name.specs.declared.addr.Addr.{Addr}
use Rattle.nbt_name.specs.Wire.{NameValue}
use Rattle.nbt_server.specs.Serving.{ServerValue}
use Rattle.nbt_server.specs.Calls.{limited}
use Rattle.nbt_node.specs.Node.{NodeValue}
use Rattle.nbt_node.specs.Calls.{refreshing_soon}
use Rattle.nbt_world.specs.declared.ends.Ends.{Ends}
use Rattle.nbt_world.specs.declared.event.Event.{Event}
use Rattle.nbt_world.specs.declared.event.Outcome.{Outcome}
use Rattle.nbt_world.specs.declared.network.Datagram.{Datagram}
use Rattle.nbt_world.specs.Drift.{reading}
use Rattle.nbt_world.specs.World.{WorldValue, addr_of, node_of, with_server, with_node}
use Rattle.nbt_world.specs.Step.{Step, SpellMove, TakenValue, EndTakes, after_taking}
use Rattle.nbt_world.specs.Inner.Handing.{Origin}
use Rattle.nbt_world.specs.Inner.Kept.{Invariant}
use Rattle.nbt_net.specs.Wire.{Act, sent_by, AllMayCome}
use Rattle.nbt_net.specs.Servers.{ServerEnd, up_of, was_of, with_rows, ServerLives}
use Rattle.nbt_net.specs.Hosts.{HostLives}

-- An event; an end takes what may come to it, as at a delivery; a node counts its ids from another one, or has a refresh due before its
-- time; or the server has another limit for its clients, or another number of rows.
pub data Goes (old : WorldValue) : WorldValue → Type 0 where
  by_event : (event : Event) (outcome : Outcome) (new : WorldValue) → Step old event outcome new → Goes old new
  by_taking : (number : ℕ) (from to : Addr) (octets : List ℕ) (taken : TakenValue) (ends : Ends) → addr_of old.ends number ≡ Some to → Origin old from to octets → EndTakes (reading old.now number) old.ends from octets number taken ends
      → Goes old (after_taking old ends to from taken)
  by_id : (index id : ℕ) (node : NodeValue) → node_of old.ends (suc index) ≡ Some node → Goes old (record old { ends = with_node old.ends (suc index) (Some (record node { next_id = id })) })
  by_doubt : (index : ℕ) (node : NodeValue) (name : NameValue) → node_of old.ends (suc index) ≡ Some node → Goes old (record old { ends = with_node old.ends (suc index) (Some (refreshing_soon node name)) })
  by_limit : (rows : Option ℕ) (server : ServerValue) → old.ends.server ≡ Some server → Goes old (record old { ends = with_server old.ends (Some (limited rows server)) old.ends.crashed })
  by_rows : (rows : ℕ) (server : ServerValue) → old.ends.server ≡ Some server → Goes old (record old { ends = with_server old.ends (Some (with_rows rows server)) old.ends.crashed })

-- any number of these
pub data Reaches : WorldValue → WorldValue → Type 0 where
  stays : (world : WorldValue) → Reaches world world
  goes_on : (old mid new : WorldValue) → Reaches old mid → Goes mid new → Reaches old new

-- ---- an act of an end leads the world on

abbrev pub with_end : Ends → ServerEnd → Ends
with_end ends server = with_server ends (up_of server) (was_of server)

abbrev pub ServersActIsARun : Type 0
ServersActIsARun = (old : WorldValue) (before after : ServerEnd) (act : Act) → old.ends ≡ with_end old.ends before → ServerLives old.config before act after → act.now ≡ reading old.now 0 → AllMayCome old old.ends.server_addr act.calls
    → Reaches old (record old { ends = with_end old.ends after; sent = old.sent ++ sent_by old.ends.server_addr old.now act.calls })

-- Each of the first is one of the second, or moves no name. So a host answers a query, of which a node of the world knows nothing.
abbrev pub AreSentOrMoveNone : List Datagram → List Datagram → Type 0
AreSentOrMoveNone xs ys = (d : Datagram) → Contains xs d → Contains ys d ⊎ (¬ SpellMove d.octets.items)

abbrev pub HostsActIsARun : Type 0
HostsActIsARun = (old : WorldValue) (index : ℕ) (at : Addr) (before after : Option NodeValue) (act : Act) → Invariant old → addr_of old.ends (suc index) ≡ Some at → node_of old.ends (suc index) ≡ before
    → HostLives old.config old.ends.server_addr at before act after → act.now ≡ reading old.now (suc index) → AllMayCome old at act.calls
    → (more : List Datagram) × Reaches old (record old { ends = with_node old.ends (suc index) after; sent = old.sent ++ more }) × AreSentOrMoveNone (sent_by at old.now act.calls) more
