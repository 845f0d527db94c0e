use Rattle.nbt_prog.proofs.Ending.{fails_on}
use Rattle.nbt_prog.proofs.machine.run_on.Goals as goal

pub returns-in-Err-clause-ends : goal.returns-in-Err-clause-ends
returns-in-Err-clause-ends g c = fails_on c.args.line.now _ c.in-Err.failure c.conclude_failed.result _ _ c.in-Err.ensures.failure c.conclude_failed.ensures.bound c.conclude_failed.ensures.status
