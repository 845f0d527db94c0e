use Rattle.nbt_bench.specs.Node.{TakesTurns}
use Rattle.nbt_bench.proofs.node.take_turns.Given as goal

-- the turns so far
abbrev pub invariant-loop : goal.invariant-loop
invariant-loop g l =
    TakesTurns g.P.Port.does g.C.Clock.tells l.arguments.server l.arguments.want l.counter
    (record { port = l.fn.port; clock = l.fn.clock; node = l.fn.node; text = g.W.Write.contents l.fn.writer })
    (record { port = l.port; clock = l.clock; node = l.node; text = g.W.Write.contents l.writer })
