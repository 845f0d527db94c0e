use Rattle.nbt_world.proofs.ByClocks.{nodes_do_alike, servers_do_alike}
use Rattle.nbt_world.proofs.laws.ends_do_the_same_by_shifted_clocks.Goals as goal

pub returns-clause-nodes : goal.returns-clause-nodes
returns-clause-nodes c = nodes_do_alike c.a_shifted_node_does_the_same.ensures.telling c.a_shifted_node_does_the_same.ensures.doing

pub returns-clause-servers : goal.returns-clause-servers
returns-clause-servers c = servers_do_alike c.a_shifted_server_does_the_same.ensures.start c.a_shifted_server_does_the_same.ensures.telling c.a_shifted_server_does_the_same.ensures.doing
