use Rattle.std.proofs.Common.{arith}
use Rattle.nbt_confirm.specs.Waiting.{waits_most}
use Rattle.nbt_waits.specs.Settling.{Serves}
use Rattle.nbt_asking.specs.Attending.{DoesSo}
use Rattle.nbt_asking.specs.Steps.{NoneIsLeft, none}
use Rattle.nbt_asking.proofs.Stepping.{ends_so, goes_on, has_enough}
use Rattle.nbt_asking.proofs.port.AskingPort.serve.Goals as goal

pub loop-init : goal.loop-init
loop-init g c = none

pub loop-preserved : goal.loop-preserved
loop-preserved g c =
    goes_on (DoesSo g.P.Port.does (Serves c.args.table.now c.args.now c.args.machine.now)) (NoneIsLeft (DoesSo g.P.Port.does (Serves c.args.table.now c.args.now c.args.machine.now))) c.loop.counter c.args.self.now c.loop.self c.serve_one.new.self c.serve_one.result c.loop.invariant c.serve_one.ensures
    c.if-not-serve_one.false

pub returns-then-not-serve_one : goal.returns-then-not-serve_one
returns-then-not-serve_one g c =
    ends_so (DoesSo g.P.Port.does (Serves c.args.table.now c.args.now c.args.machine.now)) (NoneIsLeft (DoesSo g.P.Port.does (Serves c.args.table.now c.args.now c.args.machine.now))) waits_most c.loop.counter c.args.self.now c.loop.self c.serve_one.new.self c.serve_one.result c.loop.auto.counter-end c.loop.invariant
    c.serve_one.ensures c.if-not-serve_one.true

pub returns : goal.returns
returns g c = has_enough (DoesSo g.P.Port.does (Serves c.args.table.now c.args.now c.args.machine.now)) (NoneIsLeft (DoesSo g.P.Port.does (Serves c.args.table.now c.args.now c.args.machine.now))) waits_most c.loop.counter c.args.self.now c.loop.self (omega (arith, c.loop-test.false, c.loop.auto.counter-end)) c.loop.invariant
