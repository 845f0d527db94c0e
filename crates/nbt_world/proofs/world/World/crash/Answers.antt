use Rattle.nbt_world.specs.Step.{crashes, crashes_nothing}
use Rattle.nbt_world.proofs.Starting.{crashes_kept}
use Rattle.nbt_world.proofs.Worlds.{turned_kept, has_turned}
use Rattle.nbt_world.proofs.world.World.crash.Goals as goal

pub invariant_of-self : goal.invariant_of-self
invariant_of-self c = turned_kept _ _ c.crash.new.self c.crash.result c.self.invariant (λ is. crashes_kept _ c.args.number c.crash.new.self c.self.invariant is) c.crash.ensures

pub returns : goal.returns
returns c = rw (c.done.ensures, ← c.self.view_is) (has_turned _ _ c.crash.new.self c.crash.result (λ is. crashes c.args.number c.crash.new.self is) (λ off. crashes_nothing c.args.number off) c.crash.ensures)
