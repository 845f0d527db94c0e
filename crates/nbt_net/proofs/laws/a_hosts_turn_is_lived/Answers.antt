use Rattle.nbt_net.proofs.HostTurns.{host_turns_are_lived, broken_turns_are_lived, hosts_live_on}
use Rattle.nbt_net.proofs.laws.a_hosts_turn_is_lived.Goals as goal

pub returns-clause-turn : goal.returns-clause-turn
returns-clause-turn c = host_turns_are_lived

pub returns-clause-broken : goal.returns-clause-broken
returns-clause-broken c = broken_turns_are_lived

pub returns-clause-on : goal.returns-clause-on
returns-clause-on c = hosts_live_on
