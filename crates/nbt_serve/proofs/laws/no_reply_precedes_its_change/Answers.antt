use Rattle.nbt_serve.proofs.WholeRuns.{replies_follow}
use Rattle.nbt_serve.proofs.laws.no_reply_precedes_its_change.Goals as goal

pub returns : goal.returns
returns c = replies_follow
