use Rattle.nbt_name.proofs.ReadBack.{pointer_is_read}
use Rattle.nbt_name.proofs.laws.pointer_is_the_name_it_leads_to.Goals as goal

pub returns : goal.returns
returns c = pointer_is_read
