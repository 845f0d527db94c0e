use Rattle.nbt_asking.specs.Attending.{DoesSo, Repeats}
use Rattle.nbt_asking.specs.Steps.{Times}
use Rattle.nbt_asking.proofs.port.AskingPort.repeat.Given as goal

abbrev pub invariant-loop : goal.invariant-loop
invariant-loop g l = Times (DoesSo g.P.Port.does (Repeats l.now)) l.fn.self l.counter l.self
