use Rattle.std.proofs.Common.{refl}
use Rattle.nbt_dgram.specs.Slot.{nothing}
use Rattle.nbt_dgram.proofs.slot.Slot.new.Goals as goal

pub returns : goal.returns
unfolding nothing
returns c = refl
