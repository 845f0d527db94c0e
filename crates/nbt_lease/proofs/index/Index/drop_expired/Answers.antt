use Rattle.std.proofs.Common.{sym, ◌∙◌}
use Rattle.nbt_lease.proofs.Common.{members_of}
use Rattle.nbt_lease.proofs.Flat.{all_live}
use Rattle.nbt_lease.proofs.index.Index.drop_expired.Goals as goal

pub returns-clause-leases : goal.returns-clause-leases
returns-clause-leases g c q = sym (all_live c.args.now (members_of c.pop_due.new.self q) (c.dues-test.ensures.live q)) ∙ (c.pop_due.ensures.leases q ∙ c.dues.invariant.0 q)
