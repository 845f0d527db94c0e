use Rattle.nbt_name.proofs.ReadBack.{plain_is_compressed}
use Rattle.nbt_name.proofs.laws.plain_name_is_a_name.Goals as goal

pub returns : goal.returns
returns c = plain_is_compressed
