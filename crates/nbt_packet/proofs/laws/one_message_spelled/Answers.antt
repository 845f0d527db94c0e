use Rattle.nbt_packet.proofs.OnePacket.{one_spelled}
use Rattle.nbt_packet.proofs.laws.one_message_spelled.Goals as goal

pub returns : goal.returns
returns c = one_spelled
