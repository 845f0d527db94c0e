use Rattle.nbt_port.proofs.Telling.{tells_all}
use Rattle.nbt_port.proofs.laws.memory_tells.Goals as goal

pub returns : goal.returns
returns c = tells_all
