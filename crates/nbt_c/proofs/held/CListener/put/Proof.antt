-- `put` meets its contract, as `InMemory` has it of any value.
use Rattle.std.proofs.Common.{refl}
use denote.Param.{number}
use Rattle.nbt_c.specs.contracts.held.CListener.put.Key.{name}
use Rattle.nbt_c.proofs.InMemory.{put_meets}
use Rattle.nbt_c.proofs.Handles.{listener_handle}
use Rattle.nbt_session.proofs.listener.Listener.TheLaws.{the_row_laws}
use Rattle.nbt_c.proofs.held.CListener.put.Statement.{statement}
use Rattle.nbt_c.proofs.held.CListener.put.Code as code

pub put_spec : {M : Type 1} → statement M
put_spec 𝓤 𝓛 𝓜 𝓡 wired = put_meets listener_handle 𝓤 𝓛 𝓜 𝓡 ((the_row_laws (number 14) (number 8) refl refl).lawful 𝓛) (λ κs x f. refl) name (code.unfolded 𝓤 𝓛.H 𝓜 𝓡 wired)
