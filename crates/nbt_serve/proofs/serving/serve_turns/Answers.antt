use Rattle.std.proofs.Common.{arith, ◌∙◌}
use Rattle.std.proofs.lemmas.Result.{err_from_is_err_and}
use Rattle.nbt_serve.proofs.ServerTurns.{runs_on, breaks_on, counts_few}
use Rattle.nbt_serve.proofs.serving.serve_turns.Goals as goal

pub returns-in_err-one-clause-err : goal.returns-in_err-one-clause-err
returns-in_err-one-clause-err g c =
    let p = err_from_is_err_and c.from_residual.result c.from_residual.ensures.1 in
    rw p.1 (breaks_on g.P.Port.does g.C.Clock.tells c.loop.counter c.args.turns c.loop.counts c.args.port.now c.loop.port c.serve_turn.new.port c.args.clock.now c.loop.clock c.serve_turn.new.clock c.args.server.now c.loop.server c.serve_turn.new.server
    c.loop-test.true c.loop.invariant.run c.in_err-one.ensures.err)

pub plus-counts-requires : goal.plus-counts-requires
plus-counts-requires g c =
    let a = counts_few g.P.Port.does g.C.Clock.tells c.loop.counter c.loop.counts c.args.port.now c.loop.port c.args.clock.now c.loop.clock c.args.server.now c.loop.server c.loop.invariant.run in
    let b = counts_few g.P.Port.does g.C.Clock.tells 1 c.in_ok-one.one.counts c.loop.port c.serve_turn.new.port c.loop.clock c.serve_turn.new.clock c.loop.server c.serve_turn.new.server c.in_ok-one.ensures.ok.1 in
    let lt = c.loop-test.true in
    let fits = c.ranges.turns in
    record { receives = omega (arith, a.receives, b.receives, lt, fits); replies = omega (arith, a.replies, b.replies, lt, fits); lost = omega (arith, a.lost, b.lost, lt, fits) }

pub loop-preserved : goal.loop-preserved
loop-preserved g c = record {
  run = rw c.plus-counts.ensures (runs_on g.P.Port.does g.C.Clock.tells c.loop.counter 1 c.loop.counts c.in_ok-one.one.counts c.args.port.now c.loop.port c.serve_turn.new.port c.args.clock.now c.loop.clock c.serve_turn.new.clock c.args.server.now c.loop.server c.serve_turn.new.server
      c.loop.invariant.run c.in_ok-one.ensures.ok.1);
  count = c.in_ok-one.ensures.device ∙ c.loop.invariant.count;
}
