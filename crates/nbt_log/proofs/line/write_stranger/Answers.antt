use Rattle.std.proofs.Common.{◌++◌, refl}
use Rattle.std.specs.String.{string_bytes}
use Rattle.nbt_text.proofs.Joining.{OnOk-map, five_parts}
use Rattle.nbt_log.specs.Lines.{from_text, count_text, left_text}
use Rattle.nbt_log.proofs.line.write_stranger.Goals as goal

pub returns : goal.returns
returns c =
    let a = c.args in
    let time = c.in_ok-write_time.ensures in
    OnOk-map c.write_left_out.result c.write_left_out.ensures (λ e. (
      time.0 ++ a.verb.now ++ from_text a.from ++ count_text a.count ++ left_text a.left_out,
      (time.0, time.1, refl),
      five_parts (string_bytes a.out.now) time.0 a.verb.now (from_text a.from) (count_text a.count) (left_text a.left_out) _ _ _ _ _ time.2 c.in_ok-push_str.ensures.bytes c.in_ok-write_from.ensures c.in_ok-write_count.ensures e,
    ))
