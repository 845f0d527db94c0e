use Rattle.std.proofs.Common.{◌≡◌, length, None}
use Rattle.nbt_lease.proofs.Common.{filter, is_live}
use Rattle.nbt_lease.proofs.members.MembersIterator.next.Given as goal

abbrev pub invariant-loop-lease : goal.invariant-loop-lease
invariant-loop-lease l =
    let before = l.initial.self-inside in
    (filter (is_live l.self-inside.moment) l.self-inside.leases.now ≡ filter (is_live before.moment) before.leases.now) × (l.self-inside.least ≡ None)

abbrev pub decreases-loop-lease : goal.decreases-loop-lease
decreases-loop-lease l = length l.self-inside.leases.now
