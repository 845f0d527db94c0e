use Rattle.std.proofs.Common.{arith}
use Rattle.nbt_asking.specs.Attending.{DoesSo, Repeats, most}
use Rattle.nbt_asking.specs.Steps.{NoneIsLeft, none}
use Rattle.nbt_asking.proofs.Stepping.{ends_so, goes_on, has_enough}
use Rattle.nbt_asking.proofs.port.AskingPort.repeat.Goals as goal

pub loop-init : goal.loop-init
loop-init g c = none

pub loop-preserved : goal.loop-preserved
loop-preserved g c =
    goes_on (DoesSo g.P.Port.does (Repeats c.args.now)) (NoneIsLeft (DoesSo g.P.Port.does (Repeats c.args.now))) c.loop.counter c.args.self.now c.loop.self c.repeat_one.new.self c.repeat_one.result c.loop.invariant c.repeat_one.ensures
    c.if-not-repeat_one.false

pub returns-then-not-repeat_one : goal.returns-then-not-repeat_one
returns-then-not-repeat_one g c =
    ends_so (DoesSo g.P.Port.does (Repeats c.args.now)) (NoneIsLeft (DoesSo g.P.Port.does (Repeats c.args.now))) most c.loop.counter c.args.self.now c.loop.self c.repeat_one.new.self c.repeat_one.result c.loop.auto.counter-end c.loop.invariant
    c.repeat_one.ensures c.if-not-repeat_one.true

pub returns : goal.returns
returns g c = has_enough (DoesSo g.P.Port.does (Repeats c.args.now)) (NoneIsLeft (DoesSo g.P.Port.does (Repeats c.args.now))) most c.loop.counter c.args.self.now c.loop.self (omega (arith, c.loop-test.false, c.loop.auto.counter-end)) c.loop.invariant
