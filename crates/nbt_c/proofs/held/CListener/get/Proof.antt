-- `get` meets its contract, as `InMemory` has it of any value.
use Rattle.nbt_c.specs.contracts.held.CListener.get.Key.{name}
use Rattle.nbt_c.proofs.InMemory.{get_meets}
use Rattle.nbt_c.proofs.Handles.{listener_handle}
use Rattle.nbt_c.proofs.held.CListener.get.Statement.{statement}
use Rattle.nbt_c.proofs.held.CListener.get.Code as code

pub get_spec : {M : Type 1} → statement M
get_spec 𝓤 𝓛 𝓜 𝓡 wired = get_meets listener_handle 𝓤 𝓛 𝓜 𝓡 name (code.unfolded 𝓤 𝓛.H 𝓜 𝓡 wired)
