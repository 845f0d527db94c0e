use Rattle.std.proofs.Common.{refl, sym, ap, subst, arith, ℕ, ◌+◌, [], ◌∙◌}
use Rattle.nbt_name.proofs.Common.{err_from_is_err_and, Reader, AreOctets, Spot, passed_of, spot_of, unwrap_or}
use Rattle.nbt_name.proofs.Passing.{later_passed}
use Rattle.nbt_name.proofs.WireForms.{IsPassed, nothing, path_passed, closed_name}
use Rattle.nbt_name.proofs.Ends.{step_within}
use Rattle.nbt_name.proofs.Scoped.{goes_on}
use Rattle.nbt_name.proofs.Counts.{OnPath, path_begins, path_goes_on, name_in_steps, refused_in_steps, IsCounted, no_label, step_counts, turns_bounded}
use Rattle.nbt_name.proofs.reading.pass.Goals as goal

pub steps-init : goal.steps-init
steps-init g c =
    let starts = c.requires.starts in
    record {
      scope = [];
      size = starts.0;
      on_path = path_begins c.args.form c.args.octets.now c.args.place c.args.steps.now _ starts.1;
      within = rw (ap (λ (s : Spot). s.place) starts.1) c.requires.place;
      counted = subst (λ (s : Spot). IsCounted c.args.octets.now (c.args.steps.now + c.args.place) s c.args.steps.now) (sym starts.1) (record { labels = 0; are_labels = no_label refl; bound = omega arith });
    }

pub steps-smaller : goal.steps-smaller
steps-smaller g c =
    let held = c.steps.invariant in
    let goes = rw c.in-Moved.is at c.in_ok-progress.ensures in
    goes_on c.args.octets.now c.steps.reader c.turn.new.self held.scope held.size held.within (goes held.scope held.size)

pub steps-preserved : goal.steps-preserved
steps-preserved g c =
    let held = c.steps.invariant in
    let goes = rw c.in-Moved.is at c.in_ok-progress.ensures in
    let gone = goes held.scope held.size in
    record {
      scope = gone.0;
      size = gone.1;
      on_path = subst (λ (n : ℕ). OnPath c.args.form c.args.octets.now c.args.place c.args.steps.now (spot_of c.turn.new.self gone.0) n) (sym c.add_one.ensures) (path_goes_on _ _ gone.2 held.on_path);
      within = step_within c.args.octets.now held.within gone.2;
      counted = subst (λ (n : ℕ). IsCounted c.args.octets.now (c.args.steps.now + c.args.place) (spot_of c.turn.new.self gone.0) n) (sym c.add_one.ensures) (step_counts c.args.octets.now _ _ gone.2 held.counted);
    }

pub returns-in-Closed-clause-name : goal.returns-in-Closed-clause-name
returns-in-Closed-clause-name g c =
    let held = c.steps.invariant in
    let turned = rw c.in-Closed.is at c.in_ok-progress.ensures in
    let fits : AreOctets c.args.octets.now = λ k. omega (arith, c.type_inv.octets k) in
    let passed : IsPassed (passed_of c.steps.reader.first held.scope) = path_passed c.args.octets.now fits held.on_path.path (nothing refl) in
    let count = c.steps.reader.whole c.in-Closed.sixteen turned.1 in (
      held.scope,
      held.size ∙ ap (λ (r : Reader). r.scope) (sym turned.0),
      record {
        spot = spot_of c.steps.reader held.scope;
        path = held.on_path.path;
        closes = record {
          later = later_passed _ _ _ turned.1;
          zero = turned.2;
          spells = rw turned.1 refl;
          is_name = closed_name c.args.octets.now c.in-Closed.sixteen held.scope count (rw turned.1 at passed);
          next_is = c.unwrap_or-next.ensures ∙ ap (λ (r : Reader). unwrap_or r.resume (r.place + 1)) turned.0;
        };
      },
    )

pub returns-in_err-progress-clause-refused : goal.returns-in_err-progress-clause-refused
returns-in_err-progress-clause-refused g c =
    let p = err_from_is_err_and c.from_residual.result c.from_residual.ensures.1 in
    let held = c.steps.invariant in
    rw (p.1, p.2) (refused_in_steps held.on_path (c.in_err-progress.ensures held.scope held.size))

pub returns-in_err-progress-clause-step_count : goal.returns-in_err-progress-clause-step_count
returns-in_err-progress-clause-step_count g c = omega (arith, turns_bounded c.args.octets.now c.args.steps.now c.args.place c.steps.steps (spot_of c.steps.reader c.steps.invariant.scope) c.requires.place c.steps.invariant.counted)

pub returns-in-Closed-clause-steps : goal.returns-in-Closed-clause-steps
returns-in-Closed-clause-steps g c name stands =
    let turned = rw c.in-Closed.is at c.in_ok-progress.ensures in
    rw c.add_one.ensures (name_in_steps c.steps.invariant.on_path (later_passed _ _ _ turned.1) turned.2 stands)

pub returns-in-Closed-clause-step_count : goal.returns-in-Closed-clause-step_count
returns-in-Closed-clause-step_count g c = omega (arith, c.add_one.ensures, turns_bounded c.args.octets.now c.args.steps.now c.args.place c.steps.steps (spot_of c.steps.reader c.steps.invariant.scope) c.requires.place c.steps.invariant.counted)
