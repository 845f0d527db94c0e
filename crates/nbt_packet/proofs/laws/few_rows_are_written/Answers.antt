use Rattle.nbt_packet.proofs.Sizes.{few_rows}
use Rattle.nbt_packet.proofs.laws.few_rows_are_written.Goals as goal

pub returns : goal.returns
returns c = few_rows
