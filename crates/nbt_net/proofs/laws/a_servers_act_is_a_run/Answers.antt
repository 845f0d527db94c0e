use Rattle.nbt_net.proofs.ServerActs.{servers_act}
use Rattle.nbt_net.proofs.laws.a_servers_act_is_a_run.Goals as goal

pub returns : goal.returns
returns c = servers_act
