use Rattle.nbt_packet.proofs.Sizes.{length-text}
use Rattle.nbt_packet.proofs.laws.written_length.Goals as goal

pub returns : goal.returns
returns c = length-text
