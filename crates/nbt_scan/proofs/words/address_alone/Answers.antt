use Rattle.std.proofs.Common.{refl}
use Rattle.nbt_scan.proofs.words.address_alone.Goals as goal

pub returns-in-Some : goal.returns-in-Some
returns-in-Some c = (c.in-Some.ensures.found, refl)

pub returns-in-None : goal.returns-in-None
returns-in-None c = c.in-None.ensures.none
