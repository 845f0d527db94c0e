-- When a node gets a name: the name is free, the server grants, and the node may ask (our profile).
use Rattle.std.specs.Prelude.{◌≡◌, ℕ, ◌+◌, ◌<◌, ◌≤◌, List, [], ◌∷◌, length, Some, IsTrue}
use Rattle.nbt_name.specs.declared.addr.Addr.{Addr}
use Rattle.nbt_name.specs.declared.addr.Kind.{Kind}
use Rattle.nbt_name.specs.Wire.{NameValue, IsStar}
use Rattle.nbt_lease.specs.Config.{IsConfig}
use Rattle.nbt_lease.specs.Drift.{quiet}
use Rattle.nbt_lease.specs.Lease.{leases_at, live_count, count_of}
use Rattle.nbt_server.specs.Serving.{ServerValue, speaks_from}
use Rattle.nbt_node.specs.declared.state.State.TheVariants.{Idle}
use Rattle.nbt_node.specs.Node.{NodeValue, state_at, has_room}
use Rattle.nbt_world.specs.declared.event.Event.{Event}
use Rattle.nbt_world.specs.declared.event.Event.TheVariants.{Ask, Deliver}
use Rattle.nbt_world.specs.Drift.{reading}
use Rattle.nbt_world.specs.World.{WorldValue, addr_of, node_of}

pub record CanGet (world : WorldValue) (number : ℕ) (name : NameValue) : Type 0 where
  pub limits : IsConfig world.config
  -- the server is up and past its silence, no live lease is of the name, a row is free, and where clients have a limit, the
  -- node hasn't reached it
  pub server : ServerValue
  pub server_up : world.ends.server ≡ Some server
  pub speaks : speaks_from server ≤ reading world.now 0
  pub free : leases_at (reading world.now 0) server.table.rows name ≡ []
  pub row : live_count (reading world.now 0) server.table.rows < server.table.config.rows
  pub client_row : (most : ℕ) (addr : Addr) → server.client_rows ≡ Some most → addr_of world.ends number ≡ Some addr → count_of (reading world.now 0) addr.ip server.table.rows < most
  -- the node is up, has rested since its start, knows the name as Idle, and has a slot for it
  pub node : NodeValue
  pub node_up : node_of world.ends number ≡ Some node
  pub rested : node.start + quiet world.config.life < reading world.now number
  pub idle : state_at node (reading world.now number) name ≡ Idle
  pub slot : IsTrue (has_room node.slots)
  pub no_star : ¬ IsStar name

-- the node asks for the name, its request is delivered, and then the reply
abbrev pub getting : WorldValue → (number : ℕ) → NameValue → Kind → (ttl : ℕ) → List Event
getting world number name kind ttl = Ask number name kind ttl ∷ Deliver (length world.sent) ∷ Deliver (length world.sent + 1) ∷ []
