use Rattle.nbt_front.proofs.Decided.{decides_nothing}
use Rattle.nbt_front.proofs.laws.an_open_front_decides_nothing.Goals as goal

pub returns : goal.returns
returns c = decides_nothing
