use Rattle.std.proofs.Common.{◌≡◌, ◌++◌, map, take}
use Rattle.nbt_store.proofs.table.list_leases.Given as goal

abbrev pub invariant-loop-lease : goal.invariant-loop-lease
invariant-loop-lease l = l.out.items ≡ l.fn.out.items ++ map (λ lease. (l.name, lease)) (take l.lease-index l.leases)
