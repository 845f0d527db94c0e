use Rattle.nbt_prog.proofs.Ending.{ends}
use Rattle.nbt_prog.proofs.running.run.Goals as goal

pub returns-clause-ends : goal.returns-clause-ends
returns-clause-ends g c = ends c.args.line.now _ c.outcome_of-outcome.result c.conclude.result _ _ c.outcome_of-outcome.ensures.printed c.outcome_of-outcome.ensures.failure c.conclude.ensures.printed
