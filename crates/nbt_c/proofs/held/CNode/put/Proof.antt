-- `put` meets its contract, as `InMemory` has it of any value.
use Rattle.std.proofs.Common.{refl}
use denote.Param.{number}
use Rattle.nbt_c.specs.contracts.held.CNode.put.Key.{name}
use Rattle.nbt_c.specs.Sizes.{node_slots}
use Rattle.nbt_c.proofs.InMemory.{put_meets}
use Rattle.nbt_c.proofs.Handles.{node_handle}
use Rattle.nbt_node.proofs.node.Node.TheLaws.{the_row_laws}
use Rattle.nbt_c.proofs.held.CNode.put.Statement.{statement}
use Rattle.nbt_c.proofs.held.CNode.put.Code as code

pub put_spec : {M : Type 1} → statement M
put_spec 𝓤 𝓛 𝓜 𝓡 wired = put_meets node_handle 𝓤 𝓛 𝓜 𝓡 ((the_row_laws (number node_slots) refl).lawful 𝓛) (λ κs x f. refl) name (code.unfolded 𝓤 𝓛.H 𝓜 𝓡 wired)
