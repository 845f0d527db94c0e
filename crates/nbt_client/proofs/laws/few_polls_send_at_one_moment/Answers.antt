use Rattle.nbt_client.proofs.Dues.{few_polls}
use Rattle.nbt_client.proofs.laws.few_polls_send_at_one_moment.Goals as goal

pub returns : goal.returns
returns c = few_polls c.settling_ends.ensures
