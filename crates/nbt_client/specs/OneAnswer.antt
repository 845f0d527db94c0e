-- A node's turn has one answer.
use Rattle.std.specs.Prelude.{◌≡◌, ℕ, ◌≤◌, List, [], ◌∷◌}
use Rattle.nbt_name.specs.declared.addr.Addr.{Addr}
use Rattle.nbt_node.specs.Node.{NodeValue}
use Rattle.nbt_client.specs.declared.turning.Seen.{Seen}
use Rattle.nbt_client.specs.declared.turning.Want.{Want}
use Rattle.nbt_port.specs.PortCalls.{PortCall}
use Rattle.nbt_port.specs.Memory.{came_in}
use Rattle.nbt_client.specs.Turning.{TakesTurn}

-- A node's turn whose moments don't go back is determined by them and by what came: the port's calls, what is seen, and
-- the node afterwards.
abbrev pub OneNodeTurn : Type 0
OneNodeTurn = (server : Addr) (want : Want) (old a b : NodeValue) (acts also : List PortCall) (first second : ℕ) (s t : Seen) → old.last ≤ first → first ≤ second
    → TakesTurn server want old acts (first ∷ second ∷ []) s a → TakesTurn server want old also (first ∷ second ∷ []) t b → came_in acts ≡ came_in also → (acts ≡ also) × (s ≡ t) × (a ≡ b)
