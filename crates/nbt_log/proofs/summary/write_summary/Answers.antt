use Rattle.std.proofs.Common.{ℕ, [], Option, sym, ap, subst, ◌∙◌, append-nil}
use Rattle.std.specs.String.{string_bytes}
use Rattle.nbt_text.proofs.Joining.{OnOk-map}
use Rattle.nbt_log.specs.Dates.{second_at}
use Rattle.nbt_log.specs.Limiting.{LimitsKind}
use Rattle.nbt_log.specs.Summary.{IsSummary, none_due, one_due}
use Rattle.nbt_log.proofs.Summing.{takes_due}
use Rattle.nbt_log.proofs.summary.write_summary.Goals as goal

pub returns-in_default : goal.returns-in_default
returns-in_default c = ([], none_due (sym c.in_default.ensures), sym (append-nil (string_bytes c.args.out.now)))

pub unwrap-left_out-requires : goal.unwrap-left_out-requires
unwrap-left_out-requires c = takes_due c.args.limiters.now c.take.new.self c.in-Some.kind c.args.now c.take.result (sym c.in-Some.ensures) c.take.ensures

pub returns : goal.returns
returns c =
    let kind = c.in-Some.kind in
    let left_out = c.unwrap-left_out.result in
    let second = c.second_at.ensures ∙ ap (second_at c.args.dates.now) c.get.ensures.value in
    let limits = subst (λ (taken : Option ℕ). LimitsKind c.args.limiters.now kind c.args.now taken c.take.new.self) c.unwrap-left_out.ensures c.take.ensures in
    OnOk-map c.write_more.result c.write_more.ensures (λ line. (
      line.0,
      one_due kind left_out line.0 c.take.new.self (sym c.in-Some.ensures) limits (subst (λ (n : ℕ). IsSummary n kind left_out line.0) second line.1),
      line.2,
    ))
