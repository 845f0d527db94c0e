use Rattle.std.proofs.Common.{refl}
use Rattle.nbt_packet.specs.Message.{message_if}
use Rattle.nbt_node.specs.Moves.{told_of}
use Rattle.nbt_node.specs.Answering.{sent_back}
use Rattle.nbt_host.proofs.Replies.{back_sent, back_lost}
use Rattle.nbt_host.proofs.hearing.send_back.Goals as goal

pub returns-then-not-reply_to-clause-ok : goal.returns-then-not-reply_to-clause-ok
returns-then-not-reply_to-clause-ok g c = rw c.if-not-reply_to.ensures refl

pub returns-clause-ok : goal.returns-clause-ok
returns-clause-ok g c =
    let d = c.send.ensures.does in
    let f = c.as_slice.ensures.value in
    back_sent g.P.Port.does c.args.port.now c.send.new.self c.args.to (sent_back c.args.node.now c.args.now (message_if c.args.message.now) (told_of c.args.event) c.args.out.now.items) c.reply_to.new.out.items c.send.result c.if-not-reply_to.ensures (rw f at d)

pub returns-clause-err : goal.returns-clause-err
returns-clause-err g c =
    let d = c.send.ensures.does in
    let f = c.as_slice.ensures.value in
    back_lost g.P.Port.does c.args.port.now c.send.new.self c.args.to (sent_back c.args.node.now c.args.now (message_if c.args.message.now) (told_of c.args.event) c.args.out.now.items) c.reply_to.new.out.items c.send.result c.if-not-reply_to.ensures (rw f at d)
