use Rattle.std.proofs.Common.{◌≡◌, ◌+◌, ◌≤◌, length}
use Rattle.nbt_lease.proofs.Common.{filter, NameValue, is_live, members_of, rows_of}
use Rattle.nbt_lease.proofs.index.Index.drop_expired.Given as goal

abbrev pub invariant-dues : goal.invariant-dues
invariant-dues g l =
    ((q : NameValue) → filter (is_live l.now) (members_of l.self q) ≡ filter (is_live l.now) (members_of l.initial.self q))
    × (l.looks + length (rows_of l.self) ≡ l.initial.looks + length (rows_of l.initial.self))
    × (length (rows_of l.self) ≤ length (rows_of l.initial.self))

abbrev pub decreases-dues : goal.decreases-dues
decreases-dues g l = length (rows_of l.self)
