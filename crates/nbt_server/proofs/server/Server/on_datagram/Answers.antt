use Rattle.std.proofs.Common.{◌∙◌}
use Rattle.nbt_server.proofs.server.Server.on_datagram.Goals as goal

pub returns-in-Ok-clause-served : goal.returns-in-Ok-clause-served
returns-in-Ok-clause-served c =
    let h = c.in-Ok.ensures.handled in
    (h.reply, h.takes, c.has_reply.ensures ∙ h.has_reply_is, h.written)
