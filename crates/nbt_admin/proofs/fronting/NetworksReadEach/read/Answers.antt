use Rattle.std.proofs.Common.{inr}
use Rattle.nbt_admin.proofs.fronting.NetworksReadEach.read.Goals as goal

pub returns-in-None : goal.returns-in-None
returns-in-None c = inr (rw (← c.as_bytes.ensures.value) c.in-None.ensures.none, c.of_argument.ensures)
