use Rattle.nbt_world.specs.Step.{starts, starts_nothing}
use Rattle.nbt_world.proofs.Starting.{starts_kept}
use Rattle.nbt_world.proofs.Worlds.{turned_kept, has_turned}
use Rattle.nbt_world.proofs.world.World.start.Goals as goal

pub invariant_of-self : goal.invariant_of-self
invariant_of-self c = turned_kept _ _ c.start.new.self c.start.result c.self.invariant (λ is. starts_kept _ c.args.number c.start.new.self c.self.invariant is) (rw c.reading-now.ensures at c.start.ensures)

pub returns : goal.returns
returns c =
    rw (c.done.ensures, ← c.self.view_is)
    (has_turned _ _ c.start.new.self c.start.result (λ is. starts c.args.number c.start.new.self is) (λ off. starts_nothing c.args.number off) (rw c.reading-now.ensures at c.start.ensures))
