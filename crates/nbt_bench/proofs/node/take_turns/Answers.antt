use Rattle.std.proofs.lemmas.Result.{err_from_is_err_and}
use Rattle.nbt_bench.specs.Node.{FailsTurn}
use Rattle.nbt_bench.proofs.Turning.{no_turns, turns_on, turns_end}
use Rattle.nbt_bench.proofs.node.take_turns.Goals as goal

pub loop-init : goal.loop-init
loop-init g c =
    no_turns g.P.Port.does g.C.Clock.tells c.args.arguments.now.server c.args.arguments.now.want
    (record { port = c.args.port.now; clock = c.args.clock.now; node = c.args.node.now; text = g.W.Write.contents c.args.writer.now })

pub loop-preserved : goal.loop-preserved
loop-preserved g c =
    turns_on g.P.Port.does g.C.Clock.tells c.args.arguments.now.server c.args.arguments.now.want c.loop.counter
    (record { port = c.args.port.now; clock = c.args.clock.now; node = c.args.node.now; text = g.W.Write.contents c.args.writer.now })
    (record { port = c.loop.port; clock = c.loop.clock; node = c.loop.node; text = g.W.Write.contents c.loop.writer })
    (record { port = c.take_turn.new.port; clock = c.take_turn.new.clock; node = c.take_turn.new.node; text = g.W.Write.contents c.take_turn.new.writer })
    _ c.loop.invariant c.in_ok-take_turn.ensures.ok

pub returns-in_err-take_turn-clause-err : goal.returns-in_err-take_turn-clause-err
returns-in_err-take_turn-clause-err g c =
    let p = err_from_is_err_and c.from_residual.result c.from_residual.ensures.1 in
    let a = c.args.arguments.now in
    rw (p.1, p.2) (turns_end g.P.Port.does g.C.Clock.tells a.server a.want (FailsTurn g.P.Port.does g.C.Clock.tells a.server a.want c.in_err-take_turn.field-0.0) c.loop.counter c.args.turns
    (record { port = c.args.port.now; clock = c.args.clock.now; node = c.args.node.now; text = g.W.Write.contents c.args.writer.now })
    (record { port = c.loop.port; clock = c.loop.clock; node = c.loop.node; text = g.W.Write.contents c.loop.writer })
    (record { port = c.take_turn.new.port; clock = c.take_turn.new.clock; node = c.take_turn.new.node; text = g.W.Write.contents c.take_turn.new.writer })
    c.loop-test.true c.loop.invariant c.in_err-take_turn.ensures.err)
