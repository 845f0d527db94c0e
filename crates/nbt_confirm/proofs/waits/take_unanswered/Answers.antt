use Rattle.std.proofs.Common.{sym, ap, ◌∙◌}
use Rattle.std.specs.List.{position}
use Rattle.nbt_confirm.specs.Waiting.{is_unanswered}
use Rattle.nbt_confirm.proofs.Firsts.{none_is, none_leaves, taken_is, taken_leaves}
use Rattle.nbt_confirm.proofs.waits.take_unanswered.Goals as goal

pub returns-in_err-place-clause-found : goal.returns-in_err-place-clause-found
returns-in_err-place-clause-found c = c.from_residual.ensures ∙ sym (none_is (is_unanswered c.args.now) c.args.pending.now.items (ap (position (is_unanswered c.args.now)) (sym c.as_slice.ensures.value) ∙ (sym c.place_unanswered.ensures ∙ c.in_err-place.was)))

pub returns-in_err-place-clause-left : goal.returns-in_err-place-clause-left
returns-in_err-place-clause-left c = sym (none_leaves (is_unanswered c.args.now) c.args.pending.now.items (ap (position (is_unanswered c.args.now)) (sym c.as_slice.ensures.value) ∙ (sym c.place_unanswered.ensures ∙ c.in_err-place.was)))

pub returns-clause-found : goal.returns-clause-found
returns-clause-found c = taken_is (is_unanswered c.args.now) c.args.pending.now.items c.in_ok-place.place c.remove.result (ap (position (is_unanswered c.args.now)) (sym c.as_slice.ensures.value) ∙ (sym c.place_unanswered.ensures ∙ c.in_ok-place.was)) c.remove.ensures.value

pub returns-clause-left : goal.returns-clause-left
returns-clause-left c = c.remove.ensures.items ∙ taken_leaves (is_unanswered c.args.now) c.args.pending.now.items c.in_ok-place.place c.remove.result (ap (position (is_unanswered c.args.now)) (sym c.as_slice.ensures.value) ∙ (sym c.place_unanswered.ensures ∙ c.in_ok-place.was))
