use Rattle.std.proofs.Common.{◌++◌, refl}
use Rattle.std.specs.String.{string_bytes}
use Rattle.nbt_text.proofs.Joining.{OnOk-map, four_parts}
use Rattle.nbt_host.specs.Events.{words_before, text_after}
use Rattle.nbt_host.proofs.event.write_event.Goals as goal

pub returns : goal.returns
returns c =
    let time = c.in_ok-write_time.ensures in
    let word = c.in_ok-write_word.ensures in
    let before = words_before c.args.event in
    let after = text_after c.args.event in
    OnOk-map c.write_after.result c.write_after.ensures (λ e. (
      time.0 ++ before ++ word.0 ++ after,
      record { time = time.0; word = word.0; time_is = time.1; word_is = word.1; line_is = refl },
      four_parts (string_bytes c.args.out.now) time.0 before word.0 after _ _ _ _ time.2 (rw c.words_before.ensures at c.in_ok-push_str.ensures.bytes) word.2 e,
    ))
