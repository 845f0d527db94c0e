use Rattle.std.proofs.Common.{refl}
use Rattle.std.proofs.lemmas.Result.{err_from_is_err_and}
use Rattle.nbt_packet.specs.Message.{message_if}
use Rattle.nbt_node.specs.Moves.{told_of}
use Rattle.nbt_node.proofs.Reading.{says_read}
use Rattle.nbt_host.proofs.Replies.{heard_none, heard_back, heard_one, reply_lost}
use Rattle.nbt_host.proofs.hearing.hear.Goals as goal

pub returns-in_default-clause-ok : goal.returns-in_default-clause-ok
returns-in_default-clause-ok g c = heard_none g.P.Port.does c.args.port.now c.args.server c.args.now c.args.node.now c.args.from c.args.octets.now c.in_default.is

pub returns-in_default-handle-clause-ok : goal.returns-in_default-handle-clause-ok
returns-in_default-handle-clause-ok g c =
    let e = c.in_default-handle.ensures in
    heard_back g.P.Port.does c.args.port.now c.args.server c.args.now c.args.node.now c.handle.new.self c.args.from c.in-Some.from c.args.octets.now c.in-Some.is (e.refused.0 refl) e.err.0

pub returns-clause-ok : goal.returns-clause-ok
returns-clause-ok g c =
    heard_one g.P.Port.does c.args.port.now c.send_back.new.port c.args.server c.args.now c.args.node.now c.handle.new.self c.doubt.new.node c.args.from c.in-Some.from c.args.octets.now c.handle.new.out.items
    (message_if c.read-message.result) (told_of c.in-Ok.event) c.notice_of.result c.in-Some.is (c.in-Ok.ensures.ok c.args.octets.now (says_read c.read-message.result c.args.octets.now c.read-message.ensures)) (says_read c.read-message.result c.args.octets.now c.read-message.ensures) (rw c.doubted.ensures at c.doubt.ensures) c.notice_of.ensures c.in_ok-send_back.ensures.ok

pub returns-in_err-send_back-clause-err : goal.returns-in_err-send_back-clause-err
returns-in_err-send_back-clause-err g c =
    let p = err_from_is_err_and c.from_residual.result c.from_residual.ensures.1 in
    rw p.1 (reply_lost g.P.Port.does c.args.port.now c.send_back.new.port c.args.now c.args.node.now c.handle.new.self c.args.from c.in-Some.from c.args.octets.now c.handle.new.out.items
    (message_if c.read-message.result) (told_of c.in-Ok.event) c.in-Some.is (c.in-Ok.ensures.ok c.args.octets.now (says_read c.read-message.result c.args.octets.now c.read-message.ensures)) (says_read c.read-message.result c.args.octets.now c.read-message.ensures) c.in_err-send_back.ensures.err)
