use Rattle.nbt_lease.proofs.Agreeing.{agrees_none}
use Rattle.nbt_lease.proofs.index.Index.new.Goals as goal

pub invariant_of-result : goal.invariant_of-result
invariant_of-result c = agrees_none _ _ c.with_hasher.ensures.empty c.new.ensures
