use Rattle.std.proofs.Common.{◌++◌, refl}
use Rattle.std.specs.String.{string_bytes}
use Rattle.nbt_text.proofs.Joining.{OnOk-map, four_parts}
use Rattle.nbt_log.specs.Lines.{place}
use Rattle.nbt_log.proofs.line.write_head.Goals as goal

pub returns : goal.returns
returns c =
    let time = c.in_ok-write_time.ensures in
    let word = c.in_ok-write_word.ensures in
    let verb = c.args.verb.now in
    OnOk-map c.write_place.result c.write_place.ensures (λ e. (
      time.0 ++ verb ++ word.0 ++ place c.args.claim.now,
      record { time = time.0; word = word.0; time_is = time.1; word_is = word.1; head_is = refl },
      four_parts (string_bytes c.args.out.now) time.0 verb word.0 (place c.args.claim.now) _ _ _ _ time.2 c.in_ok-push_str.ensures.bytes word.2 e,
    ))
