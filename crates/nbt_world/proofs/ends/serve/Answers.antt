use Rattle.std.proofs.Common.{refl, sym, ◌∙◌}
use Rattle.nbt_world.proofs.Replies.{replied, is_silent}
use Rattle.nbt_world.specs.Step.{takes, is_lost, server_takes, server_forgets}
use Rattle.nbt_world.proofs.ends.serve.Goals as goal

pub returns-in-Ok-true : goal.returns-in-Ok-true
returns-in-Ok-true c =
    let s = c.in-Ok-true.ensures.served in
    (takes s.0, server_takes s.0 _ s.1, replied s.0 _ (sym s.2 ∙ c.in-Ok-true.field-0-test) s.3)

pub returns-in-Ok-false : goal.returns-in-Ok-false
returns-in-Ok-false c =
    let s = c.in-Ok-false.ensures.served in
    (takes s.0, server_takes s.0 _ s.1, is_silent s.0 (sym s.2 ∙ c.in-Ok-false.field-0-test))

pub returns-in-Err-OutOfMemory : goal.returns-in-Err-OutOfMemory
returns-in-Err-OutOfMemory c =
    let memory = c.in-Err-OutOfMemory.ensures.memory in
    (is_lost, server_forgets _ (rw c.in-Err-OutOfMemory.field-0-is at memory refl), refl)
