use Rattle.nbt_serve.specs.Runs.{turns_in}
use Rattle.nbt_net.proofs.ServerTurns.{server_turns_are_lived}
use Rattle.nbt_net.proofs.laws.a_servers_turns_are_lived.Goals as goal

pub returns-clause-turns : goal.returns-clause-turns
returns-clause-turns c = server_turns_are_lived

pub returns-clause-runs : goal.returns-clause-runs
returns-clause-runs c = λ config old new seen run. server_turns_are_lived config old.server new.server (turns_in seen) (c.servers_go_by_turns.ensures old new seen run)
