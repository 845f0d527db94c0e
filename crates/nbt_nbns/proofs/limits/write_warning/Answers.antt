use Rattle.std.proofs.Common.{◌∙◌, append_assoc}
use Rattle.nbt_text.proofs.Joining.{OnOk-map}
use Rattle.nbt_nbns.proofs.limits.write_warning.Goals as goal

pub returns : goal.returns
returns c = OnOk-map c.write.result c.write.ensures.bytes (λ e. (rw c.longest-longest.ensures.value at e) ∙ simp append_assoc)
