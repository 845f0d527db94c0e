use Rattle.nbt_world.specs.Drift.{reading}
use Rattle.nbt_world.specs.Step.{resumes, resumes_nothing}
use Rattle.nbt_world.proofs.Starting.{resumes_kept}
use Rattle.nbt_world.proofs.Worlds.{turned_kept, has_turned}
use Rattle.nbt_world.proofs.world.World.resume.Goals as goal

pub invariant_of-self : goal.invariant_of-self
invariant_of-self c =
    turned_kept _ _ c.resume.new.self c.resume.result c.self.invariant (λ is. resumes_kept _ c.resume.new.self c.self.invariant is)
    (c.resume.ensures (reading c.self.inside.clocks 0) (λ was is. (c.self.invariant.server was is).past))

pub returns : goal.returns
returns c =
    rw (c.done.ensures, ← c.self.view_is)
    (has_turned _ _ c.resume.new.self c.resume.result (λ is. resumes c.resume.new.self is) (λ off. resumes_nothing off)
    (c.resume.ensures (reading c.self.inside.clocks 0) (λ was is. (c.self.invariant.server was is).past)))
