use Rattle.nbt_waits.specs.Settling.{Serves}
use Rattle.nbt_asking.specs.Attending.{DoesSo}
use Rattle.nbt_asking.specs.Steps.{Times}
use Rattle.nbt_asking.proofs.port.AskingPort.serve.Given as goal

abbrev pub invariant-loop : goal.invariant-loop
invariant-loop g l = Times (DoesSo g.P.Port.does (Serves l.table l.now l.machine)) l.fn.self l.counter l.self
