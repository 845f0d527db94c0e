use Rattle.std.proofs.Common.{length}
use Rattle.std.specs.String.{string_bytes}
use Rattle.nbt_log.specs.Hosts.{PrintsHost}
use Rattle.nbt_log.specs.Inner.Casing.{IsClearIn}
use Rattle.nbt_text.proofs.Listing.{IsListed}
use Rattle.nbt_log.proofs.hosts.write_hosts.Given as goal

abbrev pub invariant-rows : goal.invariant-rows
invariant-rows l = IsListed (PrintsHost (IsClearIn l.fixed l.cases) l.now) l.fn.rows l.rest (string_bytes l.fn.out) (string_bytes l.out)

abbrev pub decreases-rows : goal.decreases-rows
decreases-rows l = length l.rest
