use Rattle.nbt_whole.proofs.Aging.{statistics_are_recent}
use Rattle.nbt_whole.proofs.laws.the_statistics_are_recent.Goals as goal

pub returns : goal.returns
returns c = statistics_are_recent
