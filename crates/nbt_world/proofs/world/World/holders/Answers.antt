use Rattle.std.proofs.Common.{◌∙◌, ap}
use Rattle.nbt_world.specs.World.{WorldValue}
use Rattle.nbt_world.proofs.Holding.{passes_over, takes_in, reads_held, are_all_in}
use Rattle.nbt_world.proofs.world.World.holders.Goals as goal
use Rattle.nbt_world.proofs.world.World.holders.Goals.{in-Some, in-None}

pub loop-index-preserved : goal.loop-index-preserved
loop-index-preserved c =
    let held = reads_held c.as_slice-nodes.result.now c.loop-index.index c.args.name.now
    c.loop-index-test.true c.index-nodes-index.is (ap (λ (w : WorldValue). w.now) c.self.view_is) c.reading.ensures c.holding.ensures in
    elim c.match-holding.branch [
      | in-Some w ↦ rw (w.holders-is, w.push.ensures.items) (takes_in w.in-Some.kind (held ∙ w.in-Some.is) c.loop-index.invariant)
      | in-None w ↦ rw w.holders-is (passes_over (held ∙ w.in-None.is) c.loop-index.invariant)
    ]

pub returns-clause-exactly : goal.returns-clause-exactly
returns-clause-exactly c =
    are_all_in c.args.self.now
    (c.as_slice-nodes.ensures.value ∙ ap (λ (w : WorldValue). w.ends.nodes.items) c.self.view_is) c.loop-index-test.false c.loop-index.invariant
