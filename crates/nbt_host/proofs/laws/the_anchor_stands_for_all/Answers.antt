use Rattle.nbt_host.proofs.Anchors.{one_for_all}
use Rattle.nbt_host.proofs.laws.the_anchor_stands_for_all.Goals as goal

pub returns : goal.returns
returns c = one_for_all
