-- How a name stands at a node: its state, without kinds, times and transactions (our profile).
use Rattle.std.specs.Prelude.{ℕ, nat_lt, if◌then◌else◌, Option, Some, None}
use Rattle.nbt_name.specs.Wire.{NameValue}
use Rattle.nbt_node.specs.declared.standing.Standing.{Standing}
use Rattle.nbt_node.specs.declared.standing.Standing.TheVariants as s
use Rattle.nbt_node.specs.declared.state.State.{State}
use Rattle.nbt_node.specs.declared.state.State.TheVariants.{Idle, Asking, Held, Releasing, Resting}
use Rattle.nbt_node.specs.Node.{NodeValue, state_at}

abbrev pub standing_of : State → Standing
standing_of Idle = s.Idle
standing_of (Asking kind ttl last p) = s.Asking
standing_of (Held kind ttl until renew last pending) = s.Held
standing_of (Releasing kind last p) = s.Releasing
standing_of (Resting last) = s.Resting

-- as time alone has left it; nothing is told of a time before the node's last
abbrev pub standing : NodeValue → NameValue → ℕ → Option Standing
standing node name now = if nat_lt now node.last then None else Some (standing_of (state_at node now name))
