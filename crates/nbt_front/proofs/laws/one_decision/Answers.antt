use Rattle.nbt_front.proofs.OneDecision.{one_decision}
use Rattle.nbt_front.proofs.laws.one_decision.Goals as goal

pub returns : goal.returns
returns c = λ desk now ip m x y r s a b. one_decision desk now ip m x y r s a b
