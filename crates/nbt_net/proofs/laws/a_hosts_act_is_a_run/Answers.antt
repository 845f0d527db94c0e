use Rattle.nbt_net.proofs.HostActs.{hosts_act}
use Rattle.nbt_net.proofs.laws.a_hosts_act_is_a_run.Goals as goal

pub returns : goal.returns
returns c = hosts_act c.every_run_is_safe.ensures.step
