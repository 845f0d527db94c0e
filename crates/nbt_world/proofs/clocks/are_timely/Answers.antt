use Rattle.std.proofs.Common.{rules, inl, inr}
use Rattle.nbt_world.proofs.Watching.{timely_next}
use Rattle.nbt_world.proofs.clocks.are_timely.Goals.{then-not-allows_timely, else-not-allows_timely}
use Rattle.nbt_world.proofs.clocks.are_timely.Goals as goal

pub loop-number-preserved : goal.loop-number-preserved
loop-number-preserved c =
    timely_next c.args.least.now c.args.clocks.now c.loop-number.number c.of-seen.result (search rules) c.loop-number.timely c.if-not-allows_timely.timely c.allows_timely.result c.allows_timely.ensures
    (elim c.if-not-allows_timely.branch [ then-not-allows_timely w ↦ inl (w.if-not-allows_timely.true, w.timely-is) | else-not-allows_timely w ↦ inr (w.if-not-allows_timely.false, w.timely-is) ]) c.loop-number.invariant
