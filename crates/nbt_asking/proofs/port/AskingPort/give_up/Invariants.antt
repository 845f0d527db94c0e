use Rattle.nbt_asking.specs.Attending.{GivesUp}
use Rattle.nbt_asking.specs.Steps.{Times}
use Rattle.nbt_asking.proofs.port.AskingPort.give_up.Given as goal

abbrev pub invariant-loop : goal.invariant-loop
invariant-loop g l = Times (GivesUp g.P.Port.does l.table l.now) l.fn.self l.counter l.self
