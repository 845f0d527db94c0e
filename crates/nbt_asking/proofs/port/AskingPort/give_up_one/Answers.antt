use Rattle.std.proofs.Common.{◌≡◌, sym, refl, ◌∙◌, None}
use Rattle.std.specs.List.{find}
use Rattle.nbt_confirm.specs.Waiting.{is_unanswered}
use Rattle.nbt_asking.proofs.Doing.{not_both, silent_none, silent_one, unfound_leaves}
use Rattle.nbt_asking.proofs.port.AskingPort.give_up_one.Goals as goal

pub returns-in_default : goal.returns-in_default
returns-in_default g c =
    let pending = c.self.inside.desk.asking.waits.pending in
    let none : find (is_unanswered c.args.now) pending ≡ None = silent_none (find (is_unanswered c.args.now) pending) (sym c.give_up.ensures.silence ∙ c.in_default.is) in
    rw (← c.self.view_is) (rw (c.give_up.ensures.pending, unfound_leaves (is_unanswered c.args.now) pending none) refl, λ next given. not_both (find (is_unanswered c.args.now) pending) given.p none given.is_first)

pub returns : goal.returns
returns g c =
    let pending = c.self.inside.desk.asking.waits.pending in
    let one = silent_one (find (is_unanswered c.args.now) pending) c.in-Some.silence (sym c.give_up.ensures.silence ∙ c.in-Some.is) in
    let served = rw (one.inquiry_is, c.give_up.ensures.pending) at c.serve_silence.ensures in
    rw (← c.self.view_is) (record { p = one.p; is_first = one.found_is; served = served })
