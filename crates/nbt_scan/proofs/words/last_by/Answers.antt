use Rattle.std.proofs.Common.{refl}
use Rattle.nbt_scan.proofs.words.last_by.Goals as goal

pub returns-in-Some-clause-found : goal.returns-in-Some-clause-found
returns-in-Some-clause-found c = (c.in-Some.number, c.in-Some.ensures.read, refl)
