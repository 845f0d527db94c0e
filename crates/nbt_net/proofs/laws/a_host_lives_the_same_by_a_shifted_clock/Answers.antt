use Rattle.nbt_net.proofs.HostsLater.{hosts_live_later}
use Rattle.nbt_net.proofs.laws.a_host_lives_the_same_by_a_shifted_clock.Goals as goal

pub returns : goal.returns
returns c = hosts_live_later (record {
  start = c.a_shifted_node_does_the_same.ensures.start;
  tells = c.a_shifted_node_does_the_same.ensures.telling;
  does = c.a_shifted_node_does_the_same.ensures.doing;
})
