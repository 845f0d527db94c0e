use Rattle.std.proofs.Common.{◌≡◌, ◌++◌, ℕ, List, arith, subst}
use Rattle.std.specs.String.{string_bytes}
use Rattle.nbt_host.proofs.Lines.{told_none, told_on, told_all}
use Rattle.nbt_host.specs.ReleaseLines.{TellsEnding}
use Rattle.nbt_host.specs.Events.{IsLine}
use Rattle.nbt_host.specs.declared.event.Event.{Event}
use Rattle.nbt_host.proofs.release_lines.write_endings.Goals as goal

pub loop-goal-init : goal.loop-goal-init
loop-goal-init c = told_none (TellsEnding c.args.second) (string_bytes c.args.out.now)

pub loop-goal-preserved : goal.loop-goal-preserved
loop-goal-preserved c =
    told_on (TellsEnding c.args.second) c.args.goals.now c.loop-goal.goal-index c.goal-item.result (string_bytes c.args.out.now) (string_bytes c.loop-goal.out) (string_bytes c.write_event.new.out)
    c.loop-goal-test.true c.goal-item.is c.loop-goal.invariant
    (subst (λ (event : Event). (line : List ℕ) × IsLine c.args.second c.goal-item.result.want.name event line × (string_bytes c.write_event.new.out ≡ string_bytes c.loop-goal.out ++ line)) c.outcome_of.ensures c.in_ok-write_event.ensures)

pub returns : goal.returns
returns c = told_all (TellsEnding c.args.second) c.args.goals.now c.loop-goal.goal-index (string_bytes c.args.out.now) (string_bytes c.loop-goal.out) (omega arith) c.loop-goal.invariant
