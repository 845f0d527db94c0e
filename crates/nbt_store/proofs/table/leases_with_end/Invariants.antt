use Rattle.std.proofs.Common.{◌≡◌, take}
use Rattle.nbt_store.specs.Changes.{with_end}
use Rattle.nbt_store.proofs.table.leases_with_end.Given as goal

abbrev pub invariant-loop-lease : goal.invariant-loop-lease
invariant-loop-lease l = l.all.items ≡ with_end l.addr l.end (take l.lease-index l.leases)
