use Rattle.std.proofs.Common.{codes}
use Rattle.std.specs.String.{string_bytes}
use Rattle.nbt_text.proofs.Joining.{OnOk-map, five_parts}
use Rattle.nbt_text.specs.Lines.{newline}
use Rattle.nbt_log.proofs.metrics.write_help.Goals as goal

pub returns : goal.returns
returns c =
    OnOk-map c.end_line.result c.end_line.ensures (λ e.
    five_parts (string_bytes c.args.out.now) (codes "# HELP nbt_nbns_") c.args.name.now (codes " ") c.args.help.now newline _ _ _ _ _ c.in_ok-push_str.ensures.bytes c.in_ok-push_str-2.ensures.bytes c.in_ok-push_str-3.ensures.bytes c.in_ok-push_str-4.ensures.bytes e)
