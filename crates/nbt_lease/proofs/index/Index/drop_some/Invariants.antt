use Rattle.std.proofs.Common.{◌≡◌, ◌+◌, ◌≤◌, length}
use Rattle.nbt_lease.proofs.Common.{filter, keys_of, IsDistinct, NameValue, same_name, is_live, members_of, rows_of}
use Rattle.nbt_lease.proofs.index.Index.drop_some.Given as goal

abbrev pub invariant-dues : goal.invariant-dues
invariant-dues g l =
    ((q : NameValue) → filter (is_live l.now) (members_of l.self q) ≡ filter (is_live l.now) (members_of l.initial.self q))
    × (l.looks + l.left ≡ l.initial.looks + l.most)
    × (length (rows_of l.self) + l.most ≡ length (rows_of l.initial.self) + l.left)
    × (length (rows_of l.self) ≤ length (rows_of l.initial.self))
    × IsDistinct same_name (keys_of l.self)

abbrev pub decreases-dues : goal.decreases-dues
decreases-dues g l = l.left
