use Rattle.nbt_net.specs.Hosts.{HostLives}
use Rattle.nbt_net.specs.Servers.{ServerLives}
use Rattle.nbt_net.proofs.Cutting.{cut_at}
use Rattle.nbt_net.proofs.laws.a_life_may_be_cut_at_any_call.Goals as goal

pub returns-clause-server : goal.returns-clause-server
returns-clause-server c config slack old new calls story lived acts before behind is = cut_at (ServerLives config) slack old new calls story lived acts before behind is

pub returns-clause-host : goal.returns-clause-host
returns-clause-host c config server at slack old new calls story lived acts before behind is = cut_at (HostLives config server at) slack old new calls story lived acts before behind is
