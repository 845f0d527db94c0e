use Rattle.std.proofs.Common.{refl, ap}
use Rattle.nbt_dgram.specs.Dgram.{fragment_of, body_of}
use Rattle.nbt_dgram.proofs.dgram.Dgram.has_data.Goals as goal

pub returns-in-Fragment : goal.returns-in-Fragment
returns-in-Fragment c = (λ _. (fragment_of c.in-Fragment.field-0, ap body_of c.in-Fragment.is), λ _. refl)
