use Rattle.std.proofs.Common.{arith}
use Rattle.std.specs.String.{string_bytes}
use Rattle.nbt_host.proofs.Lines.{told_none, told_on, told_all}
use Rattle.nbt_host.specs.Outcomes.{IsOutcomeLine}
use Rattle.nbt_host.proofs.outcomes.write_outcomes.Goals as goal

pub loop-release-init : goal.loop-release-init
loop-release-init c = told_none IsOutcomeLine (string_bytes c.args.out.now)

pub loop-release-preserved : goal.loop-release-preserved
loop-release-preserved c =
    told_on IsOutcomeLine c.args.releases.now c.loop-release.release-index c.release-item.result (string_bytes c.args.out.now) (string_bytes c.loop-release.out) (string_bytes c.write_outcome.new.out)
    c.loop-release-test.true c.release-item.is c.loop-release.invariant c.in_ok-write_outcome.ensures

pub returns : goal.returns
returns c = told_all IsOutcomeLine c.args.releases.now c.loop-release.release-index (string_bytes c.args.out.now) (string_bytes c.loop-release.out) (omega arith) c.loop-release.invariant
