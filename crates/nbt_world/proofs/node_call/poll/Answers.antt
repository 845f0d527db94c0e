use Rattle.nbt_world.specs.Step.{polls, polls_nothing}
use Rattle.nbt_world.proofs.node_call.poll.Goals as goal

pub returns-in-Ok-Some : goal.returns-in-Ok-Some
returns-in-Ok-Some c = λ number. polls number _ _ _ (rw c.in-Ok-Some.field-0-is at c.in-Ok-Some.ensures.ok)

pub returns-in-Ok-None : goal.returns-in-Ok-None
returns-in-Ok-None c = λ number. polls_nothing number c.poll.new.self c.poll.new.out.items (rw c.in-Ok-None.field-0-is at c.in-Ok-None.ensures.ok)
