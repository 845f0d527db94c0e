use Rattle.std.proofs.Common.{rules}
use Rattle.nbt_host.proofs.Opened.{when_ok, when_err}
use Rattle.nbt_host.proofs.host.StayingTurnTurn.take.Goals as goal

pub returns-in-Ok-Ok-clause-takes : goal.returns-in-Ok-Ok-clause-takes
returns-in-Ok-Ok-clause-takes g c =
    let well = when_ok c.in-Ok-Ok.field-0 c.in-Ok-Ok.shown _ _ (search rules) c.in-Ok-Ok.ensures.ok in
    (c.in-Ok-Ok.shown, well, search rules)

pub returns-in-Ok-Ok-2-clause-takes : goal.returns-in-Ok-Ok-2-clause-takes
returns-in-Ok-Ok-2-clause-takes g c =
    let well = when_ok c.in-Ok-Ok.field-0 c.in-Ok-Ok.shown _ _ (search rules) c.in-Ok-Ok.ensures.ok in
    (c.in-Ok-Ok.shown, (well, search rules))

pub returns-in-Ok-Err-clause-takes : goal.returns-in-Ok-Err-clause-takes
returns-in-Ok-Err-clause-takes g c = when_err c.in-Ok-Err.field-0 c.in-Ok-Err.field-0-0 _ _ (search rules) c.in-Ok-Err.ensures.ok
