use Rattle.std.proofs.Common.{◌++◌, codes, refl}
use Rattle.std.specs.String.{string_bytes}
use Rattle.nbt_text.proofs.Joining.{OnOk-map}
use Rattle.nbt_text.specs.Address.{address_text}
use Rattle.nbt_text.specs.Lines.{newline}
use Rattle.nbt_host.specs.TurnLines.{span_text}
use Rattle.nbt_host.proofs.Lines.{six_parts}
use Rattle.nbt_host.proofs.turn_lines.write_going_on.Goals as goal

pub returns : goal.returns
returns c =
    let time = c.in_ok-write_time.ensures in
    let words = codes " no reply from " in
    let server = address_text c.args.server in
    let next = address_text c.args.next in
    OnOk-map c.end_line.result c.end_line.ensures (λ e. (
      time.0 ++ words ++ server ++ span_text c.args.seconds ++ next ++ newline,
      (time.0, time.1, refl),
      six_parts (string_bytes c.args.out.now) time.0 words server (span_text c.args.seconds) next newline _ _ _ _ _ _ time.2 c.in_ok-push_str.ensures.bytes c.in_ok-write_address.ensures c.in_ok-write_span.ensures c.in_ok-write_address-2.ensures e,
    ))
