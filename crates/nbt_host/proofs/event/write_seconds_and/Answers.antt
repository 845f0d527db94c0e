use Rattle.std.proofs.Common.{◌∙◌, append_assoc}
use Rattle.nbt_text.proofs.Joining.{OnOk-map}
use Rattle.nbt_host.proofs.event.write_seconds_and.Goals as goal

pub returns : goal.returns
returns c = OnOk-map c.writeln.result c.writeln.ensures.bytes (λ e. e ∙ simp append_assoc)
