use Rattle.nbt_waits.specs.Settling.{ServesSilence}
use Rattle.nbt_asking.specs.Attending.{DoesSo}
use Rattle.nbt_asking.specs.Steps.{Times}
use Rattle.nbt_asking.proofs.port.AskingPort.serve_silence.Given as goal

abbrev pub invariant-loop : goal.invariant-loop
invariant-loop g l = Times (DoesSo g.P.Port.does (ServesSilence l.table l.now l.silence)) l.fn.self l.counter l.self
