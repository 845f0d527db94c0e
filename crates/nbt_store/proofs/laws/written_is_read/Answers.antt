use Rattle.nbt_store.proofs.WholeLines.{one_more_change, closed_by}
use Rattle.nbt_store.proofs.laws.written_is_read.Goals as goal

pub returns-clause-file : goal.returns-clause-file
returns-clause-file c = one_more_change

pub returns-clause-closed : goal.returns-clause-closed
returns-clause-closed c = closed_by
