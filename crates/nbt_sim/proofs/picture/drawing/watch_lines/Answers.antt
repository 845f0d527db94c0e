use Rattle.std.proofs.Common.{◌+◌, ◌++◌, [], arith}
use Rattle.std.proofs.lemmas.Bool.{both_ways}
use Rattle.nbt_text.specs.Texts.{texts}
use Rattle.nbt_sim.proofs.Texts.{lost, texts_from, no_texts_left}
use Rattle.nbt_sim.proofs.Playing.{after_line, stopped, at_the_end}
use Rattle.nbt_sim.proofs.picture.drawing.watch_lines.Goals as goal

pub lines-init : goal.lines-init
lines-init c = ([], λ well more plays. rw c.requires at plays)

pub returns-then-branch : goal.returns-then-branch
returns-then-branch c =
    let before = c.lines.invariant in
    let line = c.in_ok-watch_line.ensures in
    let left = texts_from c.args.lines.now c.lines.index lost (omega (arith, c.lines-test.true)) in
    let end = stopped (c.lines.index + 1) _ _ _ _ (texts c.args.lines.now) before.0 line.1 line.0 (rw left at before.1) line.2 (line.3.0 c.if-branch.true) in
    (before.0, end.1)

pub lines-preserved : goal.lines-preserved
lines-preserved c =
    let before = c.lines.invariant in
    let line = c.in_ok-watch_line.ensures in
    let left = texts_from c.args.lines.now c.lines.index lost (omega (arith, c.lines-test.true)) in (
      before.0 ++ line.1,
      after_line (c.lines.index + 1) _ _ _ _ (texts c.args.lines.now) before.0 line.1 line.0 (rw left at before.1) line.2 (λ e. both_ways _ c.if-branch.false (line.3.1 e)),
    )

pub returns : goal.returns
returns c =
    let before = c.lines.invariant in
    let none = no_texts_left c.args.lines.now c.lines.index (omega (arith, c.lines-test.false)) in
    (before.0, at_the_end _ _ _ (texts c.args.lines.now) before.0 before.1 none)
