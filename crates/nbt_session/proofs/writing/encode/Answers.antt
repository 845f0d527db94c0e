use Rattle.std.proofs.lemmas.Result.{on_ok_weaker}
use Rattle.nbt_session.proofs.writing.encode.Goals as goal

pub returns-in-Message-clause-packet : goal.returns-in-Message-clause-packet
returns-in-Message-clause-packet c = rw (c.in-Message.is, ← c.deref.ensures.value) (on_ok_weaker c.put_message.result (λ short. (short, c.put_message.ensures.octets)) c.put_message.ensures.short)
