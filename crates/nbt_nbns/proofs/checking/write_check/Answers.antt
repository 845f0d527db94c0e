use Rattle.std.proofs.Common.{◌++◌, codes, refl}
use Rattle.std.specs.String.{string_bytes}
use Rattle.nbt_text.proofs.Joining.{OnOk-map, three_parts}
use Rattle.nbt_text.specs.Lines.{newline}
use Rattle.nbt_nbns.proofs.checking.write_check.Goals as goal

pub returns : goal.returns
returns c =
    let manner = c.in_ok-write_manner.ensures in
    OnOk-map c.end_line.result c.end_line.ensures (λ e. (
      codes "would serve" ++ manner.0 ++ newline,
      (manner.0, manner.1, refl),
      three_parts (string_bytes c.args.out.now) (codes "would serve") manner.0 newline _ _ _ c.in_ok-push_str.ensures.bytes manner.2 e,
    ))
