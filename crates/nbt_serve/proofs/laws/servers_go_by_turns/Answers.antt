use Rattle.nbt_serve.proofs.WholeRuns.{servers_go}
use Rattle.nbt_serve.proofs.laws.servers_go_by_turns.Goals as goal

pub returns : goal.returns
returns c = servers_go
