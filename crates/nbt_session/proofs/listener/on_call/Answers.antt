use Rattle.std.proofs.Common.{sym, ◌∙◌, arith}
use Rattle.nbt_session.specs.Listener.{name_is_not_present, nobody_listens, nobody_listens_for_it, too_many_are_open, goes_elsewhere, is_taken}
use Rattle.nbt_session.proofs.Calls.{kind_held, none_held}
use Rattle.nbt_session.proofs.listener.on_call.Goals as goal

pub returns-then-not-held : goal.returns-then-not-held
returns-then-not-held c = λ holds listed told are. rw (c.refused.ensures.slot, c.refused.ensures.answer) (name_is_not_present (none_held (holds c.args.called.now) (sym told ∙ c.if-not-held.true)))

pub returns-then-listens_on : goal.returns-then-listens_on
returns-then-listens_on c = λ holds listed told are.
    let held = kind_held (holds c.args.called.now) (sym told ∙ c.if-not-held.false) in
    rw (c.refused-then-listens_on.ensures.slot, c.refused-then-listens_on.ensures.answer) (nobody_listens_for_it held.0 held.1 (c.if-listens_on.ensures.called_entry listed are) (c.in_default.ensures.none listed are))

pub returns-in_default : goal.returns-in_default
returns-in_default c = λ holds listed told are.
    let held = kind_held (holds c.args.called.now) (sym told ∙ c.if-not-held.false) in
    rw (c.refused-in_default.ensures.slot, c.refused-in_default.ensures.answer) (nobody_listens held.0 held.1 (c.if-listens_on.ensures.none listed are))

pub returns-then-opened-most : goal.returns-then-opened-most
returns-then-opened-most c = λ holds listed told are.
    let held = kind_held (holds c.args.called.now) (sym told ∙ c.if-not-held.false) in
    rw (c.refused-then-opened-most.ensures.slot, c.refused-then-opened-most.ensures.answer) (too_many_are_open held.0 c.in-Some.entry.now held.1 (c.in-Some.ensures.found listed are) (omega arith))

pub returns-in-Some-retarget : goal.returns-in-Some-retarget
returns-in-Some-retarget c = λ holds listed told are.
    let held = kind_held (holds c.args.called.now) (sym told ∙ c.if-not-held.false) in
    goes_elsewhere held.0 c.in-Some.entry.now c.in-Some-retarget.to held.1 (c.in-Some.ensures.found listed are) (omega arith) c.in-Some-retarget.is

pub returns-in-None : goal.returns-in-None
returns-in-None c = λ holds listed told are.
    let held = kind_held (holds c.args.called.now) (sym told ∙ c.if-not-held.false) in
    is_taken held.0 c.in-Some.entry.now held.1 (c.in-Some.ensures.found listed are) (omega arith) c.in-None.is
