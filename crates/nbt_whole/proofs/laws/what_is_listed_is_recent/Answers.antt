use Rattle.nbt_whole.proofs.Aging.{leases_are_recent, hosts_are_recent}
use Rattle.nbt_whole.proofs.laws.what_is_listed_is_recent.Goals as goal

pub returns-clause-leases : goal.returns-clause-leases
returns-clause-leases c = leases_are_recent

pub returns-clause-hosts : goal.returns-clause-hosts
returns-clause-hosts c = hosts_are_recent
