use Rattle.std.proofs.Common.{arith, ◌+◌, ◌≤◌, refl, sym, ◌∙◌}
use Rattle.std.proofs.lemmas.Result.{err_from_is_err_and}
use Rattle.nbt_port.proofs.Outcomes.{goes_none, row_over, row_longer, cut_off}
use Rattle.nbt_port.specs.Staying.{takes_the_last}
use Rattle.nbt_port.proofs.staying.stay_up.Goals as goal
use Rattle.nbt_port.proofs.staying.stay_up.Goals.{in-Well, in-Failed+in_ok-goes_on-in-Failed}

pub loop-init : goal.loop-init
loop-init g c =
    let fixed = g.T.Turn.fixed c.args.turn.now in
    record {
      run = rw c.new-row.ensures (goes_none (g.T.Turn.turns fixed) (g.T.Turn.breaks fixed) (g.T.Turn.state c.args.turn.now));
      few = rw c.new-row.ensures (omega arith);
      fixed = refl;
    }

pub returns-in-Last-clause-ok : goal.returns-in-Last-clause-ok
returns-in-Last-clause-ok g c =
    let turn = rw (c.loop.invariant.fixed, c.in-Last.is) at c.take.ensures.takes in
    takes_the_last (c.loop.counter, g.T.Turn.state c.loop.turn, c.loop-test.true, (c.loop.row.failed, c.loop.invariant.few, c.loop.invariant.run), turn)

pub returns-in_err-goes_on-in-Failed-clause-err : goal.returns-in_err-goes_on-in-Failed-clause-err
returns-in_err-goes_on-in-Failed-clause-err g c =
    let p = err_from_is_err_and c.from_residual.result c.from_residual.ensures.1 in
    let fixed = g.T.Turn.fixed c.args.turn.now in
    let turn = rw (c.loop.invariant.fixed, c.in-Failed.is) at c.take.ensures.takes in
    let lt = c.loop-test.true in
    let most : c.loop.counter + 1 ≤ c.args.turns = omega (arith, lt) in
    rw (p.1, p.2) (
      c.loop.counter + 1,
      most,
      row_longer (g.T.Turn.turns fixed) (g.T.Turn.breaks fixed) c.loop.counter c.loop.row.failed _ (g.T.Turn.state c.args.turn.now) (g.T.Turn.state c.loop.turn) (g.T.Turn.state c.take.new.self)
          (sym c.in_err-goes_on-in-Failed.ensures.err ∙ c.goes_on.ensures.count) c.loop.invariant.few c.loop.invariant.run turn,
    )

pub returns-in-CutOff-clause-err : goal.returns-in-CutOff-clause-err
returns-in-CutOff-clause-err g c =
    let fixed = g.T.Turn.fixed c.args.turn.now in
    let turn = rw (c.loop.invariant.fixed, c.in-CutOff.is) at c.take.ensures.takes in
    cut_off (g.T.Turn.turns fixed) (g.T.Turn.breaks fixed) (g.T.Turn.cuts fixed) c.args.turns c.in-CutOff.fault (g.T.Turn.state c.args.turn.now) (g.T.Turn.state c.take.new.self) turn.0
    (c.loop.counter, g.T.Turn.state c.loop.turn, c.loop-test.true, (c.loop.row.failed, c.loop.invariant.few, c.loop.invariant.run), turn.1)

pub loop-preserved : goal.loop-preserved
loop-preserved g c =
    let fixed = g.T.Turn.fixed c.args.turn.now in
    elim c.match-take.branch [
      | in-Well w ↦
          let over = w.ends.ensures in
          let turn = rw (c.loop.invariant.fixed, w.in-Well.is) at c.take.ensures.takes in
          record {
            run = rw w.row-is (row_over (g.T.Turn.turns fixed) (g.T.Turn.breaks fixed) c.loop.counter c.loop.row.failed _ (g.T.Turn.state c.args.turn.now) (g.T.Turn.state c.loop.turn) (g.T.Turn.state c.take.new.self)
                turn.0 over c.loop.invariant.few c.loop.invariant.run turn.1);
            few = rw w.row-is (omega (arith, over));
            fixed = c.take.ensures.fixed ∙ c.loop.invariant.fixed;
          }
      | in-Failed+in_ok-goes_on-in-Failed w ↦
          let turn = rw (c.loop.invariant.fixed, w.in-Failed.is) at c.take.ensures.takes in
          record {
            run = rw w.row-is (row_longer (g.T.Turn.turns fixed) (g.T.Turn.breaks fixed) c.loop.counter c.loop.row.failed _ (g.T.Turn.state c.args.turn.now) (g.T.Turn.state c.loop.turn) (g.T.Turn.state c.take.new.self)
                w.goes_on.ensures.count c.loop.invariant.few c.loop.invariant.run turn);
            few = rw w.row-is w.in_ok-goes_on-in-Failed.ensures.ok;
            fixed = c.take.ensures.fixed ∙ c.loop.invariant.fixed;
          }
    ]
