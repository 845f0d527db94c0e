use Rattle.std.proofs.Common.{append_assoc}
use Rattle.nbt_text.proofs.Joining.{OnOk-map}
use Rattle.nbt_show.proofs.dgram_text.write_name_line.Goals as goal

pub returns : goal.returns
returns c =
    let name = c.in_ok-write_name.ensures in
    OnOk-map c.end_line.result c.end_line.ensures (λ e. (name.0, rw (e, name.1, c.in_ok-push_str.ensures.bytes) (simp append_assoc), rw c.to_name.ensures at name.2))
