use Rattle.std.proofs.Common.{◌≡◌, ◌++◌, ◌+◌, ◌≤◌, ℕ, List, codes, Some, None, Option, Bool, true, false, ap, ◌∙◌, arith, append_assoc, length, refl}
use Rattle.std.specs.Fmt.{decimal}
use Rattle.nbt_text.specs.Lines.{newline, lines}
use Rattle.nbt_show.specs.Verdicts.{PrintsVerdicts, failed_in, passed_in}
use Rattle.nbt_text.proofs.Splitting.{left, left_behind}
use Rattle.nbt_show.proofs.LineByLine.{all_told, lines_left, one_more}
use Rattle.nbt_show.proofs.verdicts.write_verdicts.Goals as goal

-- a verdict counts as one at most
one_at_most : (verdict : Option Bool) → passed_in verdict + failed_in verdict ≤ 1
one_at_most (Some true) = omega arith
one_at_most (Some false) = omega arith
one_at_most None = omega arith

pub lines-preserved : goal.lines-preserved
lines-preserved c =
    let told = c.in_ok-verdict.ensures in
    let before = c.lines.invariant.printed in
    let behind = left_behind 10 c.in-Some.lines.now c.split_at_first.result.0.now c.split_at_first.result.1 c.split_at_first.ensures.whole in
    let now : left c.lines.rest ≡ length c.in-Some.lines.now + 1 = ap left c.in-Some.is in
    let counted = c.lines.invariant.counted in
    let sum = c.lines.invariant.told in
    let one = one_at_most c.in_ok-verdict.verdict in
    record {
      counted = omega arith;
      told = omega (arith, c.passed_in.ensures.count, c.failed_in.ensures.count);
      printed = (
        before.0 ++ told.0,
        told.1 ∙ ap (λ (x : List ℕ). x ++ told.0) before.1 ∙ append_assoc _ before.0 told.0,
        one_more c.lines.number c.split_at_first.result.0.now c.lines.rest c.in-Some.lines c.split_at_first.result.1 (lines c.args.input.now) before.0 told.0 c.in_ok-verdict.verdict c.lines.passed c.lines.failed
            c.in-Some.is c.split_at_first.ensures.whole c.split_at_first.ensures.first before.2 told.2 (c.lines.passed + c.passed_in.result) (c.lines.failed + c.failed_in.result)
            (omega (arith, c.passed_in.ensures.count)) (omega (arith, c.failed_in.ensures.count)),
      );
    }

pub returns : goal.returns
returns c =
    let line = c.in_ok-writeln.ensures.bytes in
    let before = c.lines.invariant.printed in
    let whole : PrintsVerdicts 1 (lines c.args.input.now) before.0 c.lines.passed c.lines.failed =
    all_told c.lines.number (lines_left c.lines.rest) (lines c.args.input.now) before.0 c.lines.passed c.lines.failed (ap lines_left c.in_default.is) before.2 in (
      before.0 ++ decimal c.lines.passed ++ codes " passed, " ++ decimal c.lines.failed ++ codes " failed" ++ newline,
      rw (line, before.1) (simp append_assoc),
      record {
        verdicts = before.0;
        passed = c.lines.passed;
        failed = c.lines.failed;
        verdicts_are = whole;
        none_failed_is = refl;
        text_is = refl;
      },
    )
