-- `put` meets its contract, as `InMemory` has it of any value.
use Rattle.std.proofs.Common.{refl}
use Rattle.nbt_c.specs.contracts.held.CCaller.put.Key.{name}
use Rattle.nbt_c.proofs.InMemory.{put_meets}
use Rattle.nbt_c.proofs.Handles.{caller_handle}
use Rattle.nbt_session.proofs.caller.Caller.TheLaws.{the_row_laws}
use Rattle.nbt_c.proofs.held.CCaller.put.Statement.{statement}
use Rattle.nbt_c.proofs.held.CCaller.put.Code as code

pub put_spec : {M : Type 1} → statement M
put_spec 𝓤 𝓛 𝓜 𝓡 wired = put_meets caller_handle 𝓤 𝓛 𝓜 𝓡 (the_row_laws.lawful 𝓛) (λ κs x f. refl) name (code.unfolded 𝓤 𝓛.H 𝓜 𝓡 wired)
