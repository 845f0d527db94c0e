-- The life of a host, act by act (our profile).
use Rattle.std.specs.Prelude.{ℕ, List, [], ◌∷◌, Option, Some, None}
use Rattle.nbt_name.specs.declared.addr.Addr.{Addr}
use Rattle.nbt_lease.specs.Config.{ConfigValue}
use Rattle.nbt_node.specs.Node.{NodeValue, slots_most}
use Rattle.nbt_node.specs.Calls.{Polls, started_from}
use Rattle.nbt_port.specs.PortCalls.{PortCall, receive_failed, send_failed, route_to}
use Rattle.nbt_client.specs.Turning.{PollsTo, EndsPolls}
use Rattle.nbt_host.specs.declared.goal.Goal.{Goal}
use Rattle.nbt_host.specs.declared.news.Notice.{Notice}
use Rattle.nbt_host.specs.Hosting.{sending_to, Requests, HostHears, LosesReply}
use Rattle.nbt_net.specs.Wire.{Act}
use Rattle.nbt_net.specs.Servers.{act_at}

-- What a host does with its node at one reading of its clock, and the calls of its port: it requests a name or gives it back, it polls, it
-- hears what comes and replies; or the device fails at one of these.
pub data HostActs (server : Addr) (now : ℕ) (old : NodeValue) : List PortCall → NodeValue → Type 0 where
  requests : (goal : Goal) (request : Option (List ℕ)) (new : NodeValue) → Requests now old goal request new → HostActs server now old (sending_to (route_to server) request) new
  loses_request : (goal : Goal) (octets : List ℕ) (new : NodeValue) → Requests now old goal (Some octets) new → HostActs server now old (send_failed (route_to server) octets ∷ []) new
  polls : (call : PortCall) (new : NodeValue) → PollsTo now old call new → HostActs server now old (call ∷ []) new
  loses_poll : (to : Addr) (octets : List ℕ) (new : NodeValue) → Polls old now new (Some to) octets → HostActs server now old (send_failed (route_to to) octets ∷ []) new
  ends_polls : (new : NodeValue) → EndsPolls now old new → HostActs server now old [] new
  hears : (calls : List PortCall) (notice : Option Notice) (new : NodeValue) → HostHears server now old calls notice new → HostActs server now old calls new
  loses_reply : (calls : List PortCall) (new : NodeValue) → LosesReply now old calls new → HostActs server now old calls new
  cannot_hear : HostActs server now old (receive_failed ∷ []) old

-- A host with this address and server starts, and knows nothing; it acts; and it crashes. Where its machine slept it crashes and starts.
pub data HostLives (config : ConfigValue) (server at : Addr) : Option NodeValue → Act → Option NodeValue → Type 0 where
  starts : (now first_id : ℕ) → HostLives config server at None (act_at now) (Some (started_from slots_most at server config now first_id))
  does : (now : ℕ) (calls : List PortCall) (old new : NodeValue) → HostActs server now old calls new → HostLives config server at (Some old) (record { now = now; calls = calls }) (Some new)
  crashes : (now : ℕ) (node : NodeValue) → HostLives config server at (Some node) (act_at now) None
