use Rattle.std.proofs.Common.{rules}
use Rattle.nbt_store.proofs.Saying.{head_made}
use Rattle.nbt_store.proofs.header.head_in.Goals as goal

pub returns : goal.returns
returns c = λ h. head_made _ c.read_all-values.result c.map.result _ h c.read_all-values.ensures c.map.ensures.cases (λ x r p. search rules)
