use Rattle.nbt_world.specs.Step.{ticks}
use Rattle.nbt_world.proofs.Advancing.{alike}
use Rattle.nbt_world.proofs.world.World.tick.Goals as goal

pub returns : goal.returns
returns c = ticks c.args.ms c.go_on.new.self (alike c.args.self.now c.go_on.new.self c.args.ms c.go_on.ensures.nodes_at_most c.go_on.ensures.step)
