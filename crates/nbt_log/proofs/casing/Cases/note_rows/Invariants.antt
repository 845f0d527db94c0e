use Rattle.std.proofs.Common.{◌≡◌, ◌++◌, length}
use Rattle.nbt_lease.specs.Lease.{Rows}
use Rattle.nbt_log.specs.Inner.Casing.{KnowsAll}
use Rattle.nbt_log.proofs.casing.Cases.note_rows.Given as goal

abbrev pub invariant-rows : goal.invariant-rows
invariant-rows l = (done : Rows) × (done ++ l.rest ≡ l.fn.rows) × ((before : Rows) → KnowsAll l.fn.now before l.fn.self → KnowsAll l.fn.now (before ++ done) l.self)

abbrev pub decreases-rows : goal.decreases-rows
decreases-rows l = length l.rest
