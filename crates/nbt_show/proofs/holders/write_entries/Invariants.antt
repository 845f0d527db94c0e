use Rattle.std.proofs.Common.{length}
use Rattle.std.specs.String.{string_bytes}
use Rattle.nbt_show.specs.Holders.{IsEntryLine}
use Rattle.nbt_show.proofs.Rows.{IsPrinted}
use Rattle.nbt_show.proofs.holders.write_entries.Given as goal

abbrev pub invariant-entries : goal.invariant-entries
invariant-entries l = IsPrinted 6 IsEntryLine l.fn.entries l.rest (string_bytes l.fn.out) (string_bytes l.out)

abbrev pub decreases-entries : goal.decreases-entries
decreases-entries l = length l.rest
