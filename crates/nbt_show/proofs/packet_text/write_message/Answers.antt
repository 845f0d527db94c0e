use Rattle.std.proofs.Common.{append_assoc, refl}
use Rattle.nbt_packet.specs.Packet.{packet_of}
use Rattle.nbt_packet.specs.Message.{message_of}
use Rattle.nbt_show.specs.PacketText.{its_word, no_message, PrintsMessage}
use Rattle.nbt_text.proofs.Joining.{OnOk-map}
use Rattle.nbt_show.proofs.packet_text.write_message.Goals.{in-Some, in-None}
use Rattle.nbt_show.proofs.packet_text.write_message.Goals as goal

pub returns : goal.returns
returns c =
    let word : PrintsMessage (packet_of c.args.packet.now) c.match-classify.word.now = elim c.match-classify.branch [
      | in-Some w ↦ rw (w.word-is, w.word_of_message-word.ensures) (its_word (message_of w.in-Some.message) ((w.in-Some.ensures (message_of w.in-Some.message)).0 refl))
      | in-None w ↦ rw w.word-is (no_message (λ m is. let e = (w.in-None.ensures m).1 is in cc))
    ] in
    OnOk-map c.end_line.result c.end_line.ensures
    (λ e. (c.match-classify.word.now, rw (e, c.in_ok-push_str-2.ensures.bytes, c.in_ok-push_str.ensures.bytes) (simp append_assoc), word))
