use Rattle.std.proofs.Common.{◌∙◌, append_assoc}
use Rattle.nbt_text.proofs.Joining.{OnOk-map}
use Rattle.nbt_host.proofs.turn_lines.write_span.Goals as goal

pub returns : goal.returns
returns c = OnOk-map c.write.result c.write.ensures.bytes (λ e. e ∙ simp append_assoc)
