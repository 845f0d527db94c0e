use Rattle.std.proofs.Common.{codes}
use Rattle.std.specs.String.{string_bytes}
use Rattle.nbt_text.proofs.Joining.{OnOk-map, two_parts}
use Rattle.nbt_text.specs.Address.{dotted}
use Rattle.nbt_log.proofs.line.write_holder.Goals as goal

pub returns : goal.returns
returns c = OnOk-map c.write_dotted.result c.write_dotted.ensures (λ e. two_parts (string_bytes c.args.out.now) _ _ (codes "another has it: ") (dotted c.args.holder) c.in_ok-push_str.ensures.bytes e)
