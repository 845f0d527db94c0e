use Rattle.std.proofs.Common.{[], refl, sym}
use Rattle.std.proofs.lemmas.List.{append-nil}
use Rattle.std.proofs.lemmas.Result.{IfOk-weaker}
use Rattle.std.specs.String.{string_bytes}
use Rattle.nbt_packet.specs.Message.{MessageValue, MessageIs, message_of}
use Rattle.nbt_packet.specs.Packet.{packet_of}
use Rattle.nbt_show.specs.Replies.{a_message, no_message, no_packet}
use Rattle.nbt_show.proofs.reply.write_reply.Goals as goal

pub returns-in_default : goal.returns-in_default
returns-in_default c = ([], no_packet c.in_default.field-0 ((c.in_default.ensures.fault c.in_default.field-0).0 refl), sym (append-nil (string_bytes c.args.out.now)))

pub returns-in-Some : goal.returns-in-Some
returns-in-Some c =
    let packet = packet_of c.in-Ok.packet in
    let message = message_of c.in-Some.message in
    let stands = (c.in-Ok.ensures.packet packet c.in-Ok.field-0-1).0 refl in
    let is = (c.in-Some.ensures message).0 refl in
    IfOk-weaker c.write_message.result _ _ (λ reply told. (told.0, a_message packet c.in-Ok.field-0-1 message reply told.0 stands is told.1, told.2)) c.write_message.ensures

pub returns-in-None : goal.returns-in-None
returns-in-None c =
    let packet = packet_of c.in-Ok.packet in
    let stands = (c.in-Ok.ensures.packet packet c.in-Ok.field-0-1).0 refl in
    let nothing : (message : MessageValue) → ¬ MessageIs packet message = λ message is. let e = (c.in-None.ensures message).1 is in absurd cc in
    ([], no_message packet c.in-Ok.field-0-1 stands nothing, sym (append-nil (string_bytes c.args.out.now)))
