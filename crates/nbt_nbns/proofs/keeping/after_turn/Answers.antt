use Rattle.std.proofs.Common.{refl}
use Rattle.nbt_nbns.proofs.Stayed.{looked_so}
use Rattle.nbt_nbns.proofs.keeping.after_turn.Goals as goal

pub returns-in-Ok-clause-comes : goal.returns-in-Ok-clause-comes
returns-in-Ok-clause-comes g c = looked_so g.S.Store.does g.D.Clock.tells c.args.server.now c.args.until.now c.args.at _ _ _ _ c.ending.result c.in-Ok.ensures.looks c.ending.ensures

pub returns-in-Err-clause-comes : goal.returns-in-Err-clause-comes
returns-in-Err-clause-comes g c = (refl, c.in-Err.ensures.looks)
