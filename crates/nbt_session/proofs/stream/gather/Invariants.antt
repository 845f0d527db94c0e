use Rattle.std.proofs.Common.{◌-◌, length}
use Rattle.nbt_session.specs.Inner.Gathering.{stream_state}
use Rattle.nbt_session.proofs.Gathering.{SoFar, distance}
use Rattle.nbt_session.proofs.stream.gather.Given as goal

abbrev pub invariant-parts : goal.invariant-parts
invariant-parts l = SoFar l.piece (stream_state l.fn.pieces l.fn.message.items) l.fn.message.items l.taken l.pieces l.message.items

abbrev pub decreases-parts : goal.decreases-parts
decreases-parts l = distance l.pieces (length l.piece - l.taken)
