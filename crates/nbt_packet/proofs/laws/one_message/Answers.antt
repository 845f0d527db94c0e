use Rattle.nbt_packet.proofs.OneMessage.{one_line}
use Rattle.nbt_packet.proofs.laws.one_message.Goals as goal

pub returns : goal.returns
returns c = one_line
