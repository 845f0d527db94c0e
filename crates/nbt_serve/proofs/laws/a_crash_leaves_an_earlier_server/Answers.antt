use Rattle.nbt_serve.proofs.WholeRuns.{crash_leaves}
use Rattle.nbt_serve.proofs.laws.a_crash_leaves_an_earlier_server.Goals as goal

pub returns : goal.returns
returns c = crash_leaves
