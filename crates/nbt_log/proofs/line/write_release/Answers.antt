use Rattle.std.proofs.Common.{◌++◌, refl}
use Rattle.std.specs.String.{string_bytes}
use Rattle.nbt_text.proofs.Joining.{OnOk-map, two_parts}
use Rattle.nbt_log.specs.Lines.{left_text}
use Rattle.nbt_log.proofs.line.write_release.Goals as goal

pub returns : goal.returns
returns c =
    let head = c.in_ok-write_head.ensures in
    let left = left_text c.args.left_out in
    OnOk-map c.write_left_out.result c.write_left_out.ensures (λ e. (head.0 ++ left, (head.0, head.1, refl), two_parts (string_bytes c.args.out.now) _ _ head.0 left head.2 e))
