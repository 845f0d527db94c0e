use Rattle.std.proofs.Common.{◌-◌, length}
use Rattle.nbt_show.proofs.NextPacket.{SoFar, distance}
use Rattle.nbt_show.proofs.session_packet.next_packet.Given as goal

abbrev pub invariant-parts : goal.invariant-parts
invariant-parts l = SoFar l.octets l.begin l.taken l.pieces

abbrev pub decreases-parts : goal.decreases-parts
decreases-parts l = distance l.pieces (length l.octets - l.taken)
