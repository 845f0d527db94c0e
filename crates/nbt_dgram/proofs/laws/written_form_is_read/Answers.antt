use Rattle.nbt_dgram.proofs.ReadBack.{text_is_read}
use Rattle.nbt_dgram.proofs.laws.written_form_is_read.Goals as goal

pub returns : goal.returns
returns c = text_is_read
