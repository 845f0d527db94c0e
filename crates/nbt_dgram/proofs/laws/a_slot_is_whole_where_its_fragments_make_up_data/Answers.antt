use Rattle.nbt_dgram.proofs.Holding.{made_up, is_whole}
use Rattle.nbt_dgram.proofs.laws.a_slot_is_whole_where_its_fragments_make_up_data.Goals as goal

pub returns-clause-made_up : goal.returns-clause-made_up
returns-clause-made_up c = λ fragments s names whole since. made_up fragments s since names whole

pub returns-clause-is_whole : goal.returns-clause-is_whole
returns-clause-is_whole c = λ fragments s whole since. is_whole fragments s since whole
