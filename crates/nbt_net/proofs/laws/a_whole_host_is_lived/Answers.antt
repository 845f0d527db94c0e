use Rattle.nbt_net.proofs.HostWhole.{hosts_are_lived, failed_hosts_are_lived, hosts_here_are_lived, failed_hosts_here_are_lived}
use Rattle.nbt_net.proofs.laws.a_whole_host_is_lived.Goals as goal

pub returns-clause-ok : goal.returns-clause-ok
returns-clause-ok g c = hosts_are_lived g.P.Port.does g.K.Clock.tells g.K.Watch.looks

pub returns-clause-failed : goal.returns-clause-failed
returns-clause-failed g c = failed_hosts_are_lived g.P.Port.does g.K.Clock.tells g.K.Watch.looks

pub returns-clause-here : goal.returns-clause-here
returns-clause-here g c = hosts_here_are_lived

pub returns-clause-here_failed : goal.returns-clause-here_failed
returns-clause-here_failed g c = failed_hosts_here_are_lived
