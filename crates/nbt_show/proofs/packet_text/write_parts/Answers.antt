use Rattle.std.proofs.Common.{◌++◌, codes, append_assoc, refl}
use Rattle.nbt_show.specs.PacketText.{four_digits}
use Rattle.nbt_text.specs.Lines.{newline}
use Rattle.nbt_text.proofs.Joining.{OnOk-map}
use Rattle.nbt_show.proofs.packet_text.write_parts.Goals as goal

pub returns : goal.returns
returns c =
    let question = c.in_ok-write_question.ensures in
    let answer = c.in_ok-write_record.ensures in
    let additional = c.in_ok-write_record-2.ensures in
    let p = c.args.packet.now in
    OnOk-map c.write_message.result c.write_message.ensures (λ message. (
      codes "id " ++ four_digits p.id ++ codes " flags " ++ four_digits p.flags ++ newline ++ question.0 ++ answer.0 ++ additional.0 ++ codes "message " ++ message.0 ++ newline,
      rw (message.1, additional.1, answer.1, question.1, c.in_ok-write_header.ensures) (simp append_assoc),
      record {
        question = question.0;
        answer = answer.0;
        additional = additional.0;
        word = message.0;
        question_is = question.2;
        answer_is = answer.2;
        additional_is = additional.2;
        word_is = message.2;
        text_is = refl;
      },
    ))
