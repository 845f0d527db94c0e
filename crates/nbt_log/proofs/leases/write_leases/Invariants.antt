use Rattle.std.proofs.Common.{length}
use Rattle.std.specs.String.{string_bytes}
use Rattle.nbt_log.specs.Leases.{PrintsRow}
use Rattle.nbt_text.proofs.Listing.{IsListed}
use Rattle.nbt_log.proofs.leases.write_leases.Given as goal

abbrev pub invariant-rows : goal.invariant-rows
invariant-rows l = IsListed (PrintsRow l.dates l.now) l.fn.rows l.rest (string_bytes l.fn.out) (string_bytes l.out)

abbrev pub decreases-rows : goal.decreases-rows
decreases-rows l = length l.rest
