use Rattle.std.proofs.Common.{length}
use Rattle.nbt_scan.specs.Hosts.{passes}
use Rattle.nbt_scan.proofs.Firsts.{Leads}
use Rattle.nbt_scan.proofs.host.first_name.Given as goal

abbrev pub invariant-names : goal.invariant-names
invariant-names l = Leads (passes l.wanted) l.fn.names l.rest

abbrev pub decreases-names : goal.decreases-names
decreases-names l = length l.rest
