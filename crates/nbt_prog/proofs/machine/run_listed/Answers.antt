use Rattle.nbt_prog.proofs.Ending.{ends}
use Rattle.nbt_prog.proofs.machine.run_listed.Goals as goal

pub returns-clause-ends : goal.returns-clause-ends
returns-clause-ends g c = ends c.args.line.now _ c.listed-outcome.result c.conclude.result _ _ c.listed-outcome.ensures.printed c.listed-outcome.ensures.failure c.conclude.ensures.printed
