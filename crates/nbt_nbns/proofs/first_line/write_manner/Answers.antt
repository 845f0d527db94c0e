use Rattle.std.proofs.Common.{◌++◌, codes, refl}
use Rattle.std.specs.String.{string_bytes}
use Rattle.nbt_text.proofs.Joining.{OnOk-map, three_parts}
use Rattle.nbt_nbns.specs.Begin.{reason_text}
use Rattle.nbt_nbns.proofs.first_line.write_manner.Goals as goal

pub returns-in_ok-push_str-in-Silent : goal.returns-in_ok-push_str-in-Silent
returns-in_ok-push_str-in-Silent c =
    let silence = c.in_ok-write_silence-in-Silent.ensures in
    let why = reason_text c.in-Silent.reason in
    rw c.in-Silent.is (OnOk-map c.write_reason.result c.write_reason.ensures (λ e. (
      silence.0 ++ codes ", since " ++ why,
      (silence.0, silence.1, refl),
      three_parts (string_bytes c.args.out.now) silence.0 (codes ", since ") why _ _ _ silence.2 c.in_ok-push_str-in-Silent.ensures.bytes e,
    )))
