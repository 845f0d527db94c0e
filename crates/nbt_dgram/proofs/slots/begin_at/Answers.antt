use Rattle.std.proofs.Common.{subst}
use Rattle.nbt_dgram.specs.Inner.Joining.{HasRoom}
use Rattle.nbt_dgram.proofs.slots.begin_at.Goals as goal

pub join-requires-clause-whole : goal.join-requires-clause-whole
join-requires-clause-whole c = subst HasRoom c.in-Some.is c.open.ensures.room
