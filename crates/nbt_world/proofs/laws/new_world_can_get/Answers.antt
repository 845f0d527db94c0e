use Rattle.std.proofs.Common.{add-one}
use Rattle.nbt_world.proofs.Beginning.{can_begin}
use Rattle.nbt_world.proofs.laws.new_world_can_get.Goals as goal

pub returns : goal.returns
returns c config addrs w x y z node ms name o p q = rw (add-one node) (λ fresh limits end star long rests most first second third. can_begin fresh limits end star long rests most first second third)
