use Rattle.nbt_world.proofs.Safe.{is_safe}
use Rattle.nbt_world.proofs.world.World.is_safe.Goals as goal

pub returns-clause-safe : goal.returns-clause-safe
returns-clause-safe c = rw (← c.self.view_is) (λ on. is_safe _ c.self.invariant (c.self.invariant.clocks.kept_timely on))

pub returns-clause-safe_timely : goal.returns-clause-safe_timely
returns-clause-safe_timely c = rw (← c.self.view_is) (is_safe _ c.self.invariant)

pub returns-clause-read : goal.returns-clause-read
returns-clause-read c = rw (← c.self.view_is) (c.self.invariant.clocks)
