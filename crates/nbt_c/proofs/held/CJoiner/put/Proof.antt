-- `put` meets its contract, as `InMemory` has it of any value.
use Rattle.std.proofs.Common.{refl}
use denote.Param.{number}
use Rattle.nbt_c.specs.contracts.held.CJoiner.put.Key.{name}
use Rattle.nbt_c.proofs.InMemory.{put_meets}
use Rattle.nbt_c.proofs.Handles.{joiner_handle}
use Rattle.nbt_dgram.proofs.joiner.Joiner.TheLaws.{the_row_laws}
use Rattle.nbt_c.proofs.held.CJoiner.put.Statement.{statement}
use Rattle.nbt_c.proofs.held.CJoiner.put.Code as code

pub put_spec : {M : Type 1} → statement M
put_spec 𝓤 𝓛 𝓜 𝓡 wired = put_meets joiner_handle 𝓤 𝓛 𝓜 𝓡 ((the_row_laws (number 4) refl).lawful 𝓛) (λ κs x f. refl) name (code.unfolded 𝓤 𝓛.H 𝓜 𝓡 wired)
