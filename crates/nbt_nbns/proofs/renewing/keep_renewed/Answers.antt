use Rattle.std.proofs.Common.{rules}
use Rattle.nbt_nbns.proofs.renewing.keep_renewed.Goals as goal

pub returns-clause-ok : goal.returns-clause-ok
returns-clause-ok g c = let ok = c.stay_up.ensures.ok in search (rules, ok)

pub returns-clause-err : goal.returns-clause-err
returns-clause-err g c = let err = c.stay_up.ensures.err in search (rules, err)
