use Rattle.std.proofs.Common.{sym}
use Rattle.nbt_dgram.specs.Inner.Joining.{no_place, in_place}
use Rattle.nbt_dgram.proofs.slots.begin.Goals as goal

pub returns-in_default : goal.returns-in_default
returns-in_default c room = no_place (sym c.in_default.ensures)

pub returns : goal.returns
returns c room = rw c.begin_at.ensures (in_place c.in-Some.place (sym c.in-Some.ensures))
