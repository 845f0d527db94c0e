use Rattle.std.proofs.Common.{◌≡◌}
use Rattle.nbt_host.specs.Inner.Parts.{Passed}
use Rattle.nbt_host.proofs.releasing.wait.Given as goal

abbrev pub invariant-loop : goal.invariant-loop
invariant-loop g l = record {
  passed : Passed g.P.Port.does g.K.Clock.tells g.K.Watch.looks (record { slots = g.row.N; server = l.server; config = l.config }) l.limit l.counter (record { port = l.fn.port; watch = l.fn.watch; last = l.fn.last; host = record { goals = l.fn.goals; node = l.fn.node } }) (record { port = l.port; watch = l.watch; last = l.last; host = record { goals = l.goals; node = l.node } });
  count : g.P.Port.failures l.port ≡ g.P.Port.failures l.fn.port;
}
