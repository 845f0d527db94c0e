use Rattle.std.proofs.Common.{◌≡◌}
use Rattle.nbt_client.specs.Inner.Steps.{Passed}
use Rattle.nbt_client.proofs.lookup.wait.Given as goal

abbrev pub invariant-loop : goal.invariant-loop
invariant-loop g l = record {
  passed : Passed g.P.Port.does g.C.Clock.tells l.limit l.counter (record { port = l.fn.port; clock = l.fn.clock; node = l.fn.node }) (record { port = l.port; clock = l.clock; node = l.node });
  count : g.P.Port.failures l.port ≡ g.P.Port.failures l.fn.port;
}
