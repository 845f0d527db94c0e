use Rattle.std.proofs.Common.{rules}
use Rattle.nbt_sim.proofs.Reading.{made}
use Rattle.nbt_sim.proofs.instruction.ask_of.Goals as goal

pub returns : goal.returns
returns c = λ i. made _ _ _ c.read_all-asked.result c.map.result _ i c.read_all-asked.ensures c.map.ensures.cases (λ x r p. search rules)
