use Rattle.std.proofs.Common.{◌≡◌, ◌<◌, ◌↔◌, IsTrue, length, rules, inl, inr}
use Rattle.nbt_world.specs.Drift.{least_of, numbers_of, lesser, IsAllowed}
use Rattle.nbt_world.proofs.Watching.{watched_next, allowed_there, kept_on}
use Rattle.nbt_world.proofs.clocks.watch.Goals.{then-not-allows, else-not-allows}
use Rattle.nbt_world.proofs.clocks.watch.Goals as goal

pub loop-number-preserved : goal.loop-number-preserved
loop-number-preserved c =
    let was = c.loop-number.invariant in
    let within : c.loop-number.number < 9 = search rules in
    let there : c.loop-number.number < length c.loop-number.least = rw was.whole within in
    let is : c.lesser.result ≡ lesser (least_of c.loop-number.least c.loop-number.number) (numbers_of c.args.clocks.now c.loop-number.number) = search rules in
    let allows = allowed_there c.loop-number.least c.args.clocks.now c.loop-number.number c.lesser.result c.of-seen.result c.allows.result there (search rules) c.allows.ensures in
    let both : IsTrue c.if-not-allows.kept ↔ (IsTrue c.loop-number.kept × IsAllowed c.lesser.result c.args.clocks.now c.loop-number.number)
    = kept_on c.loop-number.kept c.if-not-allows.kept c.allows.result (IsAllowed c.lesser.result c.args.clocks.now c.loop-number.number) allows (elim c.if-not-allows.branch [ then-not-allows w ↦ inl (w.if-not-allows.true, w.kept-is) | else-not-allows w ↦ inr (w.if-not-allows.false, w.kept-is) ]) in
    watched_next within is both was
