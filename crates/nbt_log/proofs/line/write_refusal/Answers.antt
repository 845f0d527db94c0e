use Rattle.std.proofs.Common.{◌++◌, refl}
use Rattle.std.specs.String.{string_bytes}
use Rattle.nbt_text.proofs.Joining.{OnOk-map, four_parts}
use Rattle.nbt_log.specs.Lines.{from_text, why_text, left_text}
use Rattle.nbt_log.proofs.line.write_refusal.Goals as goal

pub returns : goal.returns
returns c =
    let head = c.in_ok-write_head.ensures in
    let from = from_text c.args.from in
    let why = why_text c.args.refusal in
    let left = left_text c.args.left_out in
    OnOk-map c.write_left_out.result c.write_left_out.ensures (λ e. (
      head.0 ++ from ++ why ++ left,
      (head.0, head.1, refl),
      four_parts (string_bytes c.args.out.now) head.0 from why left _ _ _ _ head.2 c.in_ok-write_from.ensures c.in_ok-write_why.ensures e,
    ))
