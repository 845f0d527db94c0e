use Rattle.std.proofs.Common.{◌++◌, refl}
use Rattle.std.specs.String.{string_bytes}
use Rattle.nbt_text.proofs.Joining.{OnOk-map, three_parts}
use Rattle.nbt_log.specs.Lines.{seconds_part, left_text}
use Rattle.nbt_log.proofs.line.write_lease.Goals as goal

pub returns : goal.returns
returns c =
    let head = c.in_ok-write_head.ensures in
    let seconds = seconds_part c.args.seconds in
    let left = left_text c.args.left_out in
    OnOk-map c.write_left_out.result c.write_left_out.ensures
    (λ e. (head.0 ++ seconds ++ left, (head.0, head.1, refl), three_parts (string_bytes c.args.out.now) head.0 seconds left _ _ _ head.2 c.in_ok-write_lease_seconds.ensures e))
