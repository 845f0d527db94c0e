use Rattle.nbt_confirm.proofs.Confirming.{none_further}
use Rattle.nbt_confirm.proofs.laws.a_node_of_ours_has_no_further_address.Goals as goal

pub returns : goal.returns
returns c = none_further c.one_message_spelled.ensures
