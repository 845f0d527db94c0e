use Rattle.std.proofs.Common.{◌≡◌}
use Rattle.nbt_host.specs.Inner.ReleaseSteps.{Passed}
use Rattle.nbt_host.proofs.release_turns.release_all.Given as goal

abbrev pub invariant-loop : goal.invariant-loop
invariant-loop g l = record {
  passed : Passed g.P.Port.does g.C.Clock.tells l.server l.own l.counter (record { clock = l.fn.clock; here = record { port = l.fn.port; releases = l.fn.releases } }) (record { clock = l.clock; here = record { port = l.port; releases = l.releases } });
  count : g.P.Port.failures l.port ≡ g.P.Port.failures l.fn.port;
}
