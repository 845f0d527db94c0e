use Rattle.nbt_server.proofs.Common.{◌↔◌, HasNone, leases_at}
use Rattle.nbt_server.proofs.serving.has_none.Given as goal

abbrev pub invariant-loop-lease : goal.invariant-loop-lease
invariant-loop-lease l =
    (goal.iterator-loop-lease).can_next l.lease-iterator × (goal.iterator-loop-lease).is_finite l.lease-iterator
    × (HasNone l.ip l.lease-iterator ↔ HasNone l.ip (leases_at l.fn.now l.table.rows l.name))
