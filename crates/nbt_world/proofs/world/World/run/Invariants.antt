use Rattle.std.proofs.Common.{List, take}
use Rattle.nbt_world.specs.World.{WorldValue}
use Rattle.nbt_world.specs.Safety.{Run}
use Rattle.nbt_world.proofs.Going.{Along}
use Rattle.nbt_world.proofs.world.World.run.Given as goal

abbrev pub invariant-loop-number : goal.invariant-loop-number
invariant-loop-number l = (worlds : List WorldValue) × Run (take l.number l.events) l.fn.self worlds l.self × Along (take l.number l.events) l.fn.self worlds l.self
