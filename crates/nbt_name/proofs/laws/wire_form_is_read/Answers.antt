use Rattle.nbt_name.proofs.ReadBack.{wire_is_read}
use Rattle.nbt_name.proofs.laws.wire_form_is_read.Goals as goal

pub returns : goal.returns
returns c = wire_is_read
