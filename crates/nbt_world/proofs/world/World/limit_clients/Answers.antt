use Rattle.nbt_world.proofs.Starting.{limited_kept}
use Rattle.nbt_world.proofs.world.World.limit_clients.Goals as goal

pub invariant_of-self : goal.invariant_of-self
invariant_of-self c = rw c.limit_clients.ensures.limited (limited_kept _ c.args.rows c.self.invariant)
