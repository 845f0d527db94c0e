use Rattle.nbt_asking.specs.Attending.{Begins}
use Rattle.nbt_asking.specs.Steps.{Times}
use Rattle.nbt_asking.proofs.port.AskingPort.begin.Given as goal

abbrev pub invariant-loop : goal.invariant-loop
invariant-loop g l = Times (Begins g.P.Port.does g.I.Ids.draws l.now) l.fn.self l.counter l.self
