use Rattle.nbt_confirm.proofs.Outcomes.{adds, grants, reaches, refuses}
use Rattle.nbt_confirm.proofs.laws.what_an_answer_can_do.Goals as goal

pub returns-clause-grants : goal.returns-clause-grants
returns-clause-grants c = grants

pub returns-clause-adds : goal.returns-clause-adds
returns-clause-adds c = adds

pub returns-clause-reaches : goal.returns-clause-reaches
returns-clause-reaches c = reaches

pub returns-clause-refuses : goal.returns-clause-refuses
returns-clause-refuses c = refuses
