use Rattle.std.proofs.Common.{subst}
use Rattle.nbt_lease.proofs.Common.{IsLeastEnd}
use Rattle.nbt_lease.proofs.Least.{least_of_live}
use Rattle.nbt_lease.proofs.members.Members.new.Goals as goal
use Rattle.nbt_lease.proofs.members.Members.new.Goals.{in-Some, in_default-2, in_default}

pub invariant_of-result : goal.invariant_of-result
invariant_of-result c =
    elim c.match-least.branch [
      | in-Some w ↦ rw w.least-is (least_of_live c.args.now w.in-Some.end c.args.leases.now w.if-now-end.true (subst (IsLeastEnd c.args.leases.now) w.in-Some.is c.requires))
      | in_default-2 w ↦ rw w.least-is tt
      | in_default w ↦ rw w.least-is tt
    ]
