use Rattle.std.proofs.Common.{length}
use Rattle.std.specs.String.{string_bytes}
use Rattle.nbt_scan.specs.Json.{IsNextName}
use Rattle.nbt_show.proofs.Rows.{IsPrinted}
use Rattle.nbt_scan.proofs.json.write_others.Given as goal

abbrev pub invariant-names : goal.invariant-names
invariant-names l = IsPrinted 18 IsNextName l.fn.names l.rest (string_bytes l.fn.out) (string_bytes l.out)

abbrev pub decreases-names : goal.decreases-names
decreases-names l = length l.rest
