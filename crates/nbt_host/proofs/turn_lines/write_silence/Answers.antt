use Rattle.std.proofs.Common.{[], ◌++◌, codes, refl, sym, append-nil}
use Rattle.std.specs.String.{string_bytes}
use Rattle.nbt_text.proofs.Joining.{OnOk-map, four_parts}
use Rattle.nbt_text.specs.Address.{address_text}
use Rattle.nbt_text.specs.Lines.{newline}
use Rattle.nbt_host.proofs.turn_lines.write_silence.Goals as goal

pub returns-then-not-silent : goal.returns-then-not-silent
returns-then-not-silent c = rw c.if-not-silent.true ([], refl, sym (append-nil (string_bytes c.args.out.now)))

pub returns : goal.returns
returns c =
    let time = c.in_ok-write_time.ensures in
    let words = codes " no reply yet from " in
    let server = address_text c.args.server in
    rw c.if-not-silent.false (OnOk-map c.end_line.result c.end_line.ensures (λ e. (
      time.0 ++ words ++ server ++ newline,
      (time.0, time.1, refl),
      four_parts (string_bytes c.args.out.now) time.0 words server newline _ _ _ _ time.2 c.in_ok-push_str.ensures.bytes c.in_ok-write_address.ensures e,
    )))
