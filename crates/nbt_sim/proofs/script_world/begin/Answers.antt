use Rattle.std.proofs.Common.{◌+◌, ◌≤◌, take, arith}
use Rattle.nbt_sim.specs.Script.{begins}
use Rattle.nbt_sim.proofs.Places.{few_places}
use Rattle.nbt_sim.proofs.script_world.begin.Goals as goal

pub returns : goal.returns
returns c =
    let few : c.args.nodes ≤ 8 = omega (arith, c.if-nodes-gt-NODES_MOST.false) in
    let some : 1 ≤ c.args.nodes = omega (arith, c.if-nodes-eq0.false) in
    begins c.args.config c.args.nodes (take (c.args.nodes + 1) c.places.result) c.unwrap.result (some, few) (few_places c.places.result c.args.nodes c.places.ensures few) (rw c.unwrap.ensures at c.new.ensures.world)
