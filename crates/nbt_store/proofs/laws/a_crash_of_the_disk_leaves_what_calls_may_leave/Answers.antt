use Rattle.nbt_store.proofs.Crashing.{left_between, left_within}
use Rattle.nbt_store.proofs.laws.a_crash_of_the_disk_leaves_what_calls_may_leave.Goals as goal

pub returns-clause-between : goal.returns-clause-between
returns-clause-between c = left_between

pub returns-clause-within : goal.returns-clause-within
returns-clause-within c = left_within
