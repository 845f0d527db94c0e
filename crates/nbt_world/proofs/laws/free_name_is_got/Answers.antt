use Rattle.nbt_world.proofs.Getting.{name_got}
use Rattle.nbt_world.proofs.laws.free_name_is_got.Goals as goal

pub returns : goal.returns
returns c = name_got c.one_message_spelled.ensures
