use Rattle.std.proofs.Common.{◌≤◌, take}
use Rattle.nbt_lease.proofs.Common.{filter, is_live, StandsIn}
use Rattle.nbt_lease.proofs.standing.Standing.find.Given as goal

abbrev pub invariant-loop-index : goal.invariant-loop-index
invariant-loop-index l = (l.standing.members ≤ l.index) × StandsIn l.addr (filter (is_live l.now) (take l.index l.leases)) l.standing
