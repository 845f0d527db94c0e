use Rattle.std.proofs.Common.{None, refl, sym, ◌∙◌}
use Rattle.nbt_world.proofs.Replies.{handled, heard_silent, heard_reply}
use Rattle.nbt_world.proofs.ends.hear.Goals as goal

pub returns-then-is_empty : goal.returns-then-is_empty
returns-then-is_empty c =
    let h = handled c.on_datagram.result _ (sym c.is_err.ensures.value ∙ c.if-is_err.false) c.on_datagram.ensures.ok in
    (None, record { told = _; out = _; handles = h.1; sent_is = heard_silent _ _ h.1.written (sym c.is_empty.ensures ∙ c.if-is_empty.true) }, refl)

pub returns-else-is_empty : goal.returns-else-is_empty
returns-else-is_empty c =
    let h = handled c.on_datagram.result _ (sym c.is_err.ensures.value ∙ c.if-is_err.false) c.on_datagram.ensures.ok in
    (h.1.sent, record { told = _; out = _; handles = h.1; sent_is = refl }, heard_reply _ _ h.1.written (sym c.is_empty.ensures ∙ c.if-is_empty.false))
