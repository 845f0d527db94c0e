use Rattle.std.proofs.Common.{[], ◌∷◌}
use Rattle.nbt_world.specs.Safety.{ends}
use Rattle.nbt_world.proofs.Running.{run_next, run_whole, stopped_at}
use Rattle.nbt_world.proofs.Going.{along_first, along_next, along_whole, runs_safely, runs_by_clocks}
use Rattle.nbt_world.proofs.world.World.run.Goals as goal

pub loop-number-init : goal.loop-number-init
loop-number-init c = (c.args.self.now ∷ [], ends c.args.self.now, along_first c.args.self.now c.is_safe.ensures.read c.is_safe.ensures.safe_timely c.is_safe.ensures.safe)

pub loop-number-preserved : goal.loop-number-preserved
loop-number-preserved c =
    let before = c.loop-number.invariant in (
      _,
      run_next c.args.events.now c.loop-number.number c.loop-number-test.true c.index-events-number.is before.1 c.in-Ok.ensures.step,
      along_next c.args.events.now c.loop-number.number c.loop-number-test.true c.index-events-number.is c.in-Ok.ensures.step c.step.ensures.safe_timely c.step.ensures.safe before.2,
    )

pub returns-in-Err-clause-stopped : goal.returns-in-Err-clause-stopped
returns-in-Err-clause-stopped c =
    let before = c.loop-number.invariant in (
      c.loop-number-test.true,
      before.0,
      rw (c.in-Err.ensures.refused) before.1,
      rw (c.in-Err.ensures.refused) (runs_safely before.2),
      rw (c.in-Err.ensures.refused) (runs_by_clocks before.2),
    )

pub returns-in-Err-clause-memory : goal.returns-in-Err-clause-memory
returns-in-Err-clause-memory c =
    let none = c.in-Err.ensures.memory in
    stopped_at c.args.events.now c.loop-number.number c.index-events-number.result c.loop-number-test.true c.index-events-number.is (λ t. let done = none t in absurd cc)

pub returns-clause-ran : goal.returns-clause-ran
returns-clause-ran c =
    let before = c.loop-number.invariant in
    let along = along_whole c.args.events.now c.loop-number.number c.loop-number-test.false before.2 in (
      before.0,
      run_whole c.args.events.now c.loop-number.number c.loop-number-test.false before.1,
      runs_safely along,
      runs_by_clocks along,
    )
