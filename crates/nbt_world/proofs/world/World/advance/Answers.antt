use Rattle.nbt_world.specs.Step.{advances}
use Rattle.nbt_world.proofs.world.World.advance.Goals as goal

pub returns : goal.returns
returns c = advances c.args.ms c.args.readings.now c.go_on.new.self c.go_on.ensures.step
