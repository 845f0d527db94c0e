use Rattle.std.proofs.Common.{arith}
use Rattle.std.specs.String.{string_bytes}
use Rattle.nbt_host.proofs.Lines.{told_none, told_on, told_all}
use Rattle.nbt_host.specs.TurnLines.{TellsGoal}
use Rattle.nbt_host.proofs.turn_lines.write_goals.Goals as goal

pub loop-goal-init : goal.loop-goal-init
loop-goal-init c = told_none (TellsGoal c.args.second c.args.log) (string_bytes c.args.out.now)

pub loop-goal-preserved : goal.loop-goal-preserved
loop-goal-preserved c =
    told_on (TellsGoal c.args.second c.args.log) c.args.goals.now c.loop-goal.goal-index c.goal-item.result (string_bytes c.args.out.now) (string_bytes c.loop-goal.out) (string_bytes c.write_goal.new.out)
    c.loop-goal-test.true c.goal-item.is c.loop-goal.invariant c.in_ok-write_goal.ensures

pub returns : goal.returns
returns c = told_all (TellsGoal c.args.second c.args.log) c.args.goals.now c.loop-goal.goal-index (string_bytes c.args.out.now) (string_bytes c.loop-goal.out) (omega arith) c.loop-goal.invariant
