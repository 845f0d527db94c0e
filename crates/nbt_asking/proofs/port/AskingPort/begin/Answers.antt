use Rattle.std.proofs.Common.{arith}
use Rattle.nbt_asking.specs.Attending.{Begins, BeginsNone, most}
use Rattle.nbt_asking.specs.Steps.{none}
use Rattle.nbt_asking.proofs.Stepping.{ends_so, goes_on, has_enough}
use Rattle.nbt_asking.proofs.port.AskingPort.begin.Goals as goal

pub loop-init : goal.loop-init
loop-init g c = none

pub loop-preserved : goal.loop-preserved
loop-preserved g c =
    goes_on (Begins g.P.Port.does g.I.Ids.draws c.args.now) (BeginsNone g.I.Ids.draws) c.loop.counter c.args.self.now c.loop.self c.begin_one.new.self c.begin_one.result c.loop.invariant c.begin_one.ensures
    c.if-not-begin_one.false

pub returns-then-not-begin_one : goal.returns-then-not-begin_one
returns-then-not-begin_one g c =
    ends_so (Begins g.P.Port.does g.I.Ids.draws c.args.now) (BeginsNone g.I.Ids.draws) most c.loop.counter c.args.self.now c.loop.self c.begin_one.new.self c.begin_one.result c.loop.auto.counter-end c.loop.invariant
    c.begin_one.ensures c.if-not-begin_one.true

pub returns : goal.returns
returns g c = has_enough (Begins g.P.Port.does g.I.Ids.draws c.args.now) (BeginsNone g.I.Ids.draws) most c.loop.counter c.args.self.now c.loop.self (omega (arith, c.loop-test.false, c.loop.auto.counter-end)) c.loop.invariant
