-- What an end of a world does by another clock, which at each time shows a constant more: the same (our profile).
use Rattle.std.specs.Prelude.{◌≡◌, ℕ, ◌+◌, List, Option}
use Rattle.std.specs.Option.{option_map}
use Rattle.nbt_name.specs.declared.addr.Addr.{Addr}
use Rattle.nbt_name.specs.Wire.{NameValue}
use Rattle.nbt_packet.specs.Message.{MessageValue}
use Rattle.nbt_lease.specs.Config.{ConfigValue}
use Rattle.nbt_server.specs.Shifted.{shifted_server}
use Rattle.nbt_node.specs.Node.{NodeValue}
use Rattle.nbt_node.specs.Shifted.{shifted_node}
use Rattle.nbt_world.specs.declared.ends.Ends.{Ends}
use Rattle.nbt_world.specs.declared.event.Event.{Event}
use Rattle.nbt_world.specs.Step.{CallOutcomeValue, NodeDoes, Starts, Resumes, TakenValue, NodeHandles, EndTakes}
use Rattle.nbt_world.specs.Safety.{held_by}

-- A node holds the same names, does the same at an event of its own, and takes a datagram with the same reply. A law of
-- `nbt_node` says that it starts so.
pub record NodesDoAlike (more now : ℕ) : Type 0 where
  pub holds : (node : Option NodeValue) (name : NameValue) → held_by (option_map (shifted_node more) node) name (now + more) ≡ held_by node name now
  pub does : (old new : NodeValue) (event : Event) (given : CallOutcomeValue) → NodeDoes old now event new given → NodeDoes (shifted_node more old) (now + more) event (shifted_node more new) given
  pub handles : (old new : NodeValue) (from : Addr) (octets : List ℕ) (reply : Option MessageValue) → NodeHandles now old from octets reply new → NodeHandles (now + more) (shifted_node more old) from octets reply (shifted_node more new)

-- the server's end, up or down, and the nodes as they are
abbrev pub shifted_server_end : (more : ℕ) → Ends → Ends
shifted_server_end more ends = record ends { server = option_map (shifted_server more) ends.server; crashed = option_map (shifted_server more) ends.crashed }

-- A server starts, resumes with the same leases, and takes a datagram with the same reply, or is out of memory for it.
pub record ServersDoAlike (more now : ℕ) : Type 0 where
  pub starts : (config : ConfigValue) (old new : Ends) → Starts config now old 0 new → Starts config (now + more) (shifted_server_end more old) 0 (shifted_server_end more new)
  pub resumes : (old new : Ends) → Resumes now old new → Resumes (now + more) (shifted_server_end more old) (shifted_server_end more new)
  pub takes : (old new : Ends) (from : Addr) (octets : List ℕ) (taken : TakenValue) → EndTakes now old from octets 0 taken new
      → EndTakes (now + more) (shifted_server_end more old) from octets 0 taken (shifted_server_end more new)
