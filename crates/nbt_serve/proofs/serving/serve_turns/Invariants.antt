use Rattle.std.proofs.Common.{◌≡◌}
use Rattle.nbt_serve.specs.Serving.{Runs}
use Rattle.nbt_serve.proofs.serving.serve_turns.Given as goal

abbrev pub invariant-loop : goal.invariant-loop
invariant-loop g l = record {
  run : Runs g.P.Port.does g.C.Clock.tells l.counter l.counts l.fn.port l.fn.clock l.fn.server l.port l.clock l.server;
  count : g.P.Port.failures l.port ≡ g.P.Port.failures l.fn.port;
}
