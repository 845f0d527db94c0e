use Rattle.std.proofs.Common.{length}
use Rattle.std.specs.String.{string_bytes}
use Rattle.nbt_scan.specs.Lines.{IsNameBelow}
use Rattle.nbt_show.proofs.Rows.{IsPrinted}
use Rattle.nbt_scan.proofs.names_below.write_names_below.Given as goal

abbrev pub invariant-names : goal.invariant-names
invariant-names l = IsPrinted 18 IsNameBelow l.fn.names l.rest (string_bytes l.fn.out) (string_bytes l.out)

abbrev pub decreases-names : goal.decreases-names
decreases-names l = length l.rest
