use Rattle.std.proofs.Common.{codes}
use Rattle.std.specs.String.{string_bytes}
use Rattle.nbt_text.specs.Lines.{newline}
use Rattle.nbt_text.proofs.Joining.{OnOk-map, five_parts}
use Rattle.nbt_show.proofs.session_text.write_request_line.Goals as goal

pub returns : goal.returns
returns c =
    let called = c.in_ok-write_name.ensures in
    let calling = c.in_ok-write_name-2.ensures in
    OnOk-map c.end_line.result c.end_line.ensures (λ e. (
      called.0,
      calling.0,
      five_parts (string_bytes c.args.out.now) (codes "request ") called.0 (codes " ") calling.0 newline
          (string_bytes c.push_str.new.self) (string_bytes c.write_name.new.out) (string_bytes c.push_str-2.new.self) (string_bytes c.write_name-2.new.out) (string_bytes c.end_line.new.out)
          c.in_ok-push_str.ensures.bytes called.1 c.in_ok-push_str-2.ensures.bytes calling.1 e,
      called.2,
      calling.2,
    ))
