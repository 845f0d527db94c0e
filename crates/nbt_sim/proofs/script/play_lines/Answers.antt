use Rattle.std.proofs.Common.{◌∙◌, ◌+◌, ◌++◌, List, ℕ, ap, append_assoc, arith, codes}
use Rattle.std.proofs.lemmas.Bool.{both_ways}
use Rattle.std.proofs.lemmas.List.{append-nil}
use Rattle.nbt_text.specs.Lines.{verdict_line}
use Rattle.nbt_text.specs.Texts.{texts}
use Rattle.nbt_sim.proofs.Texts.{lost, texts_from, no_texts_left}
use Rattle.nbt_sim.proofs.Playing.{after_line, stopped, at_the_end}
use Rattle.nbt_sim.proofs.script.play_lines.Goals as goal

pub returns-then-is_unreadable : goal.returns-then-is_unreadable
returns-then-is_unreadable c =
    let before = c.lines.invariant in
    let line = c.in_ok-play_line.ensures in
    let left = texts_from c.args.lines.now c.lines.index lost (omega (arith, c.lines-test.true)) in
    let end = stopped (c.lines.index + 1) _ _ _ _ (texts c.args.lines.now) before.0 line.0 _ (rw left at before.2) line.2 (c.is_unreadable.ensures.0 c.if-is_unreadable.true) in
    (before.0 ++ verdict_line (c.lines.index + 1) (codes "unreadable"), rw (c.in_ok-writeln.ensures.bytes, line.1, end.0, before.1) (simp (append_assoc, append-nil)), end.1)

pub lines-preserved : goal.lines-preserved
lines-preserved c =
    let before = c.lines.invariant in
    let line = c.in_ok-play_line.ensures in
    let left = texts_from c.args.lines.now c.lines.index lost (omega (arith, c.lines-test.true)) in (
      before.0 ++ line.0,
      line.1 ∙ ap (λ (x : List ℕ). x ++ line.0) before.1 ∙ append_assoc _ before.0 line.0,
      after_line (c.lines.index + 1) _ _ _ _ (texts c.args.lines.now) before.0 line.0 _ (rw left at before.2) line.2 (λ e. both_ways _ c.if-is_unreadable.false (c.is_unreadable.ensures.1 e)),
    )

pub returns : goal.returns
returns c =
    let before = c.lines.invariant in
    let none = no_texts_left c.args.lines.now c.lines.index (omega (arith, c.lines-test.false)) in
    (before.0, before.1, at_the_end _ _ _ (texts c.args.lines.now) before.0 before.2 none)
