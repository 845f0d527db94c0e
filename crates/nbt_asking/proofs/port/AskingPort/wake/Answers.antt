use Rattle.std.proofs.Common.{arith}
use Rattle.nbt_waits.specs.Lapsing.{Wakes}
use Rattle.nbt_asking.specs.Attending.{DoesSo, most}
use Rattle.nbt_asking.specs.Steps.{NoneIsLeft, none}
use Rattle.nbt_asking.proofs.Stepping.{ends_so, goes_on, has_enough}
use Rattle.nbt_asking.proofs.port.AskingPort.wake.Goals as goal

pub loop-init : goal.loop-init
loop-init g c = none

pub loop-preserved : goal.loop-preserved
loop-preserved g c =
    goes_on (DoesSo g.P.Port.does (Wakes c.args.table.now c.args.now)) (NoneIsLeft (DoesSo g.P.Port.does (Wakes c.args.table.now c.args.now))) c.loop.counter c.args.self.now c.loop.self c.wake_one.new.self c.wake_one.result c.loop.invariant c.wake_one.ensures
    c.if-not-wake_one.false

pub returns-then-not-wake_one : goal.returns-then-not-wake_one
returns-then-not-wake_one g c =
    ends_so (DoesSo g.P.Port.does (Wakes c.args.table.now c.args.now)) (NoneIsLeft (DoesSo g.P.Port.does (Wakes c.args.table.now c.args.now))) most c.loop.counter c.args.self.now c.loop.self c.wake_one.new.self c.wake_one.result c.loop.auto.counter-end c.loop.invariant
    c.wake_one.ensures c.if-not-wake_one.true

pub returns : goal.returns
returns g c = has_enough (DoesSo g.P.Port.does (Wakes c.args.table.now c.args.now)) (NoneIsLeft (DoesSo g.P.Port.does (Wakes c.args.table.now c.args.now))) most c.loop.counter c.args.self.now c.loop.self (omega (arith, c.loop-test.false, c.loop.auto.counter-end)) c.loop.invariant
