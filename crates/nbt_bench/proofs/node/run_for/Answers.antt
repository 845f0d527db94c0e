use Rattle.std.proofs.lemmas.Result.{on_ok_weaker}
use Rattle.nbt_port.proofs.Outcomes.{stays_up}
use Rattle.nbt_bench.proofs.node.run_for.Goals as goal

pub returns-in-None-clause-ok : goal.returns-in-None-clause-ok
returns-in-None-clause-ok g c = rw c.in-None.is (on_ok_weaker c.node_on.result (stays_up _ _ _ _ _) c.node_on.ensures.ok)
