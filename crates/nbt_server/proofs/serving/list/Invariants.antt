use Rattle.std.proofs.Common.{◌≡◌, ◌++◌, ◌+◌, ◌*◌, length, take}
use Rattle.nbt_server.proofs.Common.{entries_most, leases_at, entries, listed}
use Rattle.nbt_server.proofs.serving.list.Given as goal

abbrev pub invariant-loop-lease : goal.invariant-loop-lease
invariant-loop-lease l =
    (goal.iterator-loop-lease).can_next l.lease-iterator
    × (goal.iterator-loop-lease).is_finite l.lease-iterator
    × (l.put.items ++ entries (take l.room l.lease-iterator) ≡ entries (listed l.fn.name (leases_at l.fn.now l.fn.table.rows l.fn.name)))
    × (length l.put.items + 6 * l.room ≡ 6 * entries_most l.fn.name)
    × (entries_most l.fn.name + length l.lease-iterator ≡ length (leases_at l.fn.now l.fn.table.rows l.fn.name) + l.room)
