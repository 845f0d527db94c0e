use Rattle.std.specs.Prelude.{◌↔◌}
use Rattle.nbt_lease.specs.Lease.{leases_at}
use Rattle.nbt_confirm.specs.Deciding.{MayJoin}
use Rattle.nbt_confirm.proofs.deciding.may_join.Given as goal

abbrev pub invariant-loop-lease : goal.invariant-loop-lease
invariant-loop-lease l =
    (goal.iterator-loop-lease).can_next l.lease-iterator × (goal.iterator-loop-lease).is_finite l.lease-iterator
    × (MayJoin l.ip l.lease-iterator ↔ MayJoin l.ip (leases_at l.fn.now l.table.rows l.name))
