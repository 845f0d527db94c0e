use Rattle.nbt_front.specs.Networks.{all_bits, some_bits}
use Rattle.nbt_front.proofs.Rulings.{if_some}
use Rattle.nbt_front.proofs.network.bits_behind.Goals as goal

pub returns-in-Some-clause-found : goal.returns-in-Some-clause-found
returns-in-Some-clause-found c = rw c.in-Some.is (if_some c.bits_in.result (λ bits h. some_bits c.in-Some.digits.now bits h.0 h.1) c.bits_in.ensures.found)

pub returns-in-None-clause-found : goal.returns-in-None-clause-found
returns-in-None-clause-found c = rw c.in-None.is all_bits
