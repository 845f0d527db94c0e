use Rattle.std.proofs.Common.{arith}
use Rattle.nbt_asking.specs.Attending.{GivesUp, most}
use Rattle.nbt_asking.specs.Steps.{NoneIsLeft, none}
use Rattle.nbt_asking.proofs.Stepping.{ends_so, goes_on, has_enough}
use Rattle.nbt_asking.proofs.port.AskingPort.give_up.Goals as goal

pub loop-init : goal.loop-init
loop-init g c = none

pub loop-preserved : goal.loop-preserved
loop-preserved g c =
    goes_on (GivesUp g.P.Port.does c.args.table.now c.args.now) (NoneIsLeft (GivesUp g.P.Port.does c.args.table.now c.args.now)) c.loop.counter c.args.self.now c.loop.self c.give_up_one.new.self c.give_up_one.result c.loop.invariant c.give_up_one.ensures
    c.if-not-give_up_one.false

pub returns-then-not-give_up_one : goal.returns-then-not-give_up_one
returns-then-not-give_up_one g c =
    ends_so (GivesUp g.P.Port.does c.args.table.now c.args.now) (NoneIsLeft (GivesUp g.P.Port.does c.args.table.now c.args.now)) most c.loop.counter c.args.self.now c.loop.self c.give_up_one.new.self c.give_up_one.result c.loop.auto.counter-end c.loop.invariant
    c.give_up_one.ensures c.if-not-give_up_one.true

pub returns : goal.returns
returns g c = has_enough (GivesUp g.P.Port.does c.args.table.now c.args.now) (NoneIsLeft (GivesUp g.P.Port.does c.args.table.now c.args.now)) most c.loop.counter c.args.self.now c.loop.self (omega (arith, c.loop-test.false, c.loop.auto.counter-end)) c.loop.invariant
