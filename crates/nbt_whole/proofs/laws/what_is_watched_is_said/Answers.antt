use Rattle.nbt_whole.proofs.Overall.{runs_begin_new}
use Rattle.nbt_whole.proofs.Saying.{what_is_watched_is_said}
use Rattle.nbt_whole.proofs.laws.what_is_watched_is_said.Goals as goal

pub returns-clause-begins : goal.returns-clause-begins
returns-clause-begins c = runs_begin_new

pub returns-clause-said : goal.returns-clause-said
returns-clause-said c = what_is_watched_is_said
