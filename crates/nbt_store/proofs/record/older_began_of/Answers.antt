use Rattle.std.proofs.Common.{rules}
use Rattle.nbt_store.proofs.Saying.{made}
use Rattle.nbt_store.proofs.record.older_began_of.Goals as goal

pub returns : goal.returns
returns c = λ i. made _ _ _ c.read_all-values.result c.map.result _ i c.read_all-values.ensures c.map.ensures.cases (λ x r p. search rules)
