use Rattle.std.proofs.Common.{◌≡◌, ◌++◌, List}
use Rattle.nbt_lease.specs.declared.lease.Lease.{Lease}
use Rattle.nbt_lease.specs.Lease.{leases_at, HasNone}
use Rattle.nbt_serve.proofs.changing.move_of.Given as goal

abbrev pub invariant-loop-lease : goal.invariant-loop-lease
invariant-loop-lease l =
    (goal.iterator-loop-lease).can_next l.lease-iterator
    × (goal.iterator-loop-lease).is_finite l.lease-iterator
    × (before : List Lease) × HasNone l.fn.claim.addr before × (before ++ l.lease-iterator ≡ leases_at l.fn.now l.fn.table.rows l.fn.claim.name)
