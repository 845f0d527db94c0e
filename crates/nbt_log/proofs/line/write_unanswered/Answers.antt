use Rattle.std.proofs.Common.{◌++◌, codes, refl}
use Rattle.std.specs.String.{string_bytes}
use Rattle.nbt_text.proofs.Joining.{OnOk-map, five_parts}
use Rattle.nbt_log.specs.Lines.{from_text, left_text}
use Rattle.nbt_log.proofs.line.write_unanswered.Goals as goal

pub returns : goal.returns
returns c =
    let time = c.in_ok-write_time.ensures in
    let word = c.in_ok-write_word.ensures in
    let from = from_text c.args.from in
    let left = left_text c.args.left_out in
    OnOk-map c.write_left_out.result c.write_left_out.ensures (λ e. (
      time.0 ++ codes " unanswered " ++ word.0 ++ from ++ left,
      record { time = time.0; word = word.0; time_is = time.1; word_is = word.1; line_is = refl },
      five_parts (string_bytes c.args.out.now) time.0 (codes " unanswered ") word.0 from left _ _ _ _ _ time.2 c.in_ok-push_str.ensures.bytes word.2 c.in_ok-write_from.ensures e,
    ))
