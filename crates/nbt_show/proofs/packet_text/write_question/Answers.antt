use Rattle.std.proofs.Common.{[], ◌++◌, codes, sym}
use Rattle.std.proofs.lemmas.List.{append-nil}
use Rattle.std.specs.String.{string_bytes}
use Rattle.nbt_show.specs.PacketText.{no_question, one_question, type_and_class}
use Rattle.nbt_text.specs.Lines.{newline}
use Rattle.nbt_text.proofs.Joining.{OnOk-map, four_parts}
use Rattle.nbt_show.proofs.packet_text.write_question.Goals as goal

pub returns-in_default : goal.returns-in_default
returns-in_default c = ([], sym (append-nil _), rw c.in_default.is no_question)

pub returns : goal.returns
returns c =
    let name = c.in_ok-write_name.ensures in
    let q = c.in-Some.question in
    OnOk-map c.end_line.result c.end_line.ensures (λ e. (
      codes "question " ++ name.0 ++ type_and_class q.rtype q.class ++ newline,
      four_parts (string_bytes c.args.out.now) (codes "question ") name.0 (type_and_class q.rtype q.class) newline (string_bytes c.push_str.new.self) (string_bytes c.write_name.new.out)
          (string_bytes c.write_type_and_class.new.out) (string_bytes c.end_line.new.out) c.in_ok-push_str.ensures.bytes name.1 c.in_ok-write_type_and_class.ensures e,
      rw c.in-Some.is (one_question q name.0 (rw c.to_name.ensures at name.2)),
    ))
