use Rattle.std.proofs.Common.{arith}
use Rattle.nbt_world.proofs.Advancing.{end_counts, count_ends}
use Rattle.nbt_world.proofs.world.World.end_count.Goals as goal

pub returns-clause-exactly : goal.returns-clause-exactly
returns-clause-exactly c = rw (← c.self.view_is, c.len.ensures.value) (λ n. (count_ends c.self.inside.ends n, end_counts c.self.inside.ends n))

pub returns-clause-within : goal.returns-clause-within
returns-clause-within c = let least = c.self.invariant.ends.nodes_at_least in let most = c.self.invariant.ends.nodes_at_most in rw c.len.ensures.value (omega arith, omega arith)
