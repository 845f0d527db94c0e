use Rattle.nbt_waits.proofs.Reading.{none_registered}
use Rattle.nbt_waits.proofs.looking.is_registration.Goals as goal

pub returns-in-None : goal.returns-in-None
returns-in-None c = none_registered c.args.octets.now c.registration_in.result c.registration_in.ensures c.in-None.is
