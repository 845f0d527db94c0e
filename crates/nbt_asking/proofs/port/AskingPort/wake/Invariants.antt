use Rattle.nbt_waits.specs.Lapsing.{Wakes}
use Rattle.nbt_asking.specs.Attending.{DoesSo}
use Rattle.nbt_asking.specs.Steps.{Times}
use Rattle.nbt_asking.proofs.port.AskingPort.wake.Given as goal

abbrev pub invariant-loop : goal.invariant-loop
invariant-loop g l = Times (DoesSo g.P.Port.does (Wakes l.table l.now)) l.fn.self l.counter l.self
