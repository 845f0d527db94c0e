use Rattle.std.proofs.Common.{append_assoc}
use Rattle.nbt_text.proofs.Joining.{OnOk-map}
use Rattle.nbt_text.proofs.address.write_address.Goals as goal

pub returns : goal.returns
returns c = OnOk-map c.write.result c.write.ensures.bytes (λ e. rw (e, c.in_ok-write_dotted.ensures) (simp append_assoc))
