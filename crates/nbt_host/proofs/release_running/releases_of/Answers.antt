use Rattle.std.proofs.Common.{arith}
use Rattle.std.proofs.lemmas.Grind.{common_steps}
use Rattle.nbt_host.proofs.Freshness.{fresh_more}
use Rattle.nbt_host.proofs.release_running.releases_of.Goals as goal

pub loop-i-preserved : goal.loop-i-preserved
loop-i-preserved c =
    let more = fresh_more c.args.number c.args.wants.now c.loop-i.i c.index-wants-i.result c.loop-i-test.true c.index-wants-i.is in
    grind (arith, common_steps, more, c.in_ok-push.ensures.items, c.new.ensures, c.index-wants-i.is, c.loop-i.invariant)
