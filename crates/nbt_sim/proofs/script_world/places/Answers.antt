use Rattle.std.proofs.Common.{◌∙◌, arith}
use Rattle.std.proofs.lemmas.List.{length-set}
use Rattle.nbt_sim.proofs.Places.{one_place_more}
use Rattle.nbt_sim.proofs.script_world.places.Goals as goal

pub places-preserved : goal.places-preserved
places-preserved c = record {
  next = omega (arith, c.places.invariant.next);
  nine = length-set c.places.addr-items c.places.addr-index _ ∙ c.places.invariant.nine;
  places = λ k h. one_place_more c.places.addr-items c.places.addr-index c.places.ip k (omega (arith, c.places-test.true, c.places.invariant.nine)) c.places.invariant.next c.places.invariant.places h;
}
