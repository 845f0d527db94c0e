use Rattle.std.proofs.Common.{◌≡◌, ◌++◌, length}
use Rattle.nbt_lease.specs.Inner.Index.{rows_of}
use Rattle.nbt_store.proofs.table.list_rows.Given as goal

abbrev pub invariant-names : goal.invariant-names
invariant-names l = l.rows.items ++ rows_of l.rest ≡ rows_of l.members.entries

abbrev pub decreases-names : goal.decreases-names
decreases-names l = length l.rest
