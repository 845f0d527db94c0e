use Rattle.nbt_dgram.proofs.Holding.{one_whole}
use Rattle.nbt_dgram.proofs.laws.fragments_make_up_one_whole.Goals as goal

pub returns : goal.returns
returns c = one_whole
