use Rattle.std.proofs.Common.{ℕ, [], sym, ap, subst, ◌∙◌, append-nil}
use Rattle.std.specs.String.{string_bytes}
use Rattle.nbt_text.proofs.Joining.{OnOk-map}
use Rattle.nbt_log.specs.Dates.{second_at}
use Rattle.nbt_log.specs.Lines.{IsLine}
use Rattle.nbt_nbns.specs.Logging.{nothing, untold, told, left_out, no_summary, no_summary_beside, no_line}
use Rattle.nbt_nbns.proofs.Outgoing.{on_err}
use Rattle.nbt_nbns.proofs.logger.write_limited.Goals as goal

pub returns-in_default-clause-made : goal.returns-in_default-clause-made
returns-in_default-clause-made c = rw c.in_default.is (OnOk-map c.write_summary.result c.write_summary.ensures (λ line. (line.0, nothing line.0 c.write_summary.new.limiters line.1, line.2)))

pub returns-in_default-clause-unmade : goal.returns-in_default-clause-unmade
returns-in_default-clause-unmade c = rw c.in_default.is (on_err c.write_summary.result (no_summary c.write_summary.new.limiters))

pub returns-in_default-told_kind-clause-made : goal.returns-in_default-told_kind-clause-made
returns-in_default-told_kind-clause-made c =
    rw c.in-Some.is
    (OnOk-map c.write_summary-in_default-told_kind.result c.write_summary-in_default-told_kind.ensures
    (λ line. (line.0, untold c.in-Some.entry line.0 c.write_summary-in_default-told_kind.new.limiters (sym c.in_default-told_kind.ensures) line.1, line.2)))

pub returns-in_default-told_kind-clause-unmade : goal.returns-in_default-told_kind-clause-unmade
returns-in_default-told_kind-clause-unmade c =
    rw c.in-Some.is (on_err c.write_summary-in_default-told_kind.result (no_summary_beside c.in-Some.entry c.write_summary-in_default-told_kind.new.limiters (sym c.in_default-told_kind.ensures)))

pub returns-in-Some-take-clause-made : goal.returns-in-Some-take-clause-made
returns-in-Some-take-clause-made c =
    let entry = c.in-Some.entry in
    let left = c.in-Some-take.left_out in
    let second = c.second_at-second.ensures ∙ ap (second_at c.args.dates.now) c.get.ensures.value in
    rw c.in-Some.is (OnOk-map c.write_entry.result c.write_entry.ensures (λ line. (
      line.0,
      told entry c.in-Some-told_kind.kind left line.0 c.take.new.self (sym c.in-Some-told_kind.ensures) c.in-Some-take.ensures (subst (λ (n : ℕ). IsLine n left entry line.0) second line.1),
      line.2,
    )))

pub returns-in-Some-take-clause-unmade : goal.returns-in-Some-take-clause-unmade
returns-in-Some-take-clause-unmade c =
    rw c.in-Some.is (on_err c.write_entry.result (no_line c.in-Some.entry c.in-Some-told_kind.kind c.in-Some-take.left_out c.take.new.self (sym c.in-Some-told_kind.ensures) c.in-Some-take.ensures))

pub returns-in-None-clause-made : goal.returns-in-None-clause-made
returns-in-None-clause-made c =
    rw c.in-Some.is
    ([], left_out c.in-Some.entry c.in-Some-told_kind.kind c.take.new.self (sym c.in-Some-told_kind.ensures) c.in-None.ensures, sym (append-nil (string_bytes c.args.out.now)))
