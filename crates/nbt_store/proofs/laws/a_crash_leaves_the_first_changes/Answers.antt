use Rattle.nbt_store.proofs.WholeLines.{after_crash}
use Rattle.nbt_store.proofs.laws.a_crash_leaves_the_first_changes.Goals as goal

pub returns : goal.returns
returns c = after_crash
