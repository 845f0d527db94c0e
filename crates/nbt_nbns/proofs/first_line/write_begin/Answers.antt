use Rattle.std.proofs.Common.{◌++◌, codes, refl}
use Rattle.std.specs.String.{string_bytes}
use Rattle.nbt_text.proofs.Joining.{OnOk-map, four_parts}
use Rattle.nbt_text.specs.Lines.{newline}
use Rattle.nbt_nbns.specs.Begin.{addresses_text}
use Rattle.nbt_nbns.proofs.first_line.write_begin.Goals as goal

pub returns : goal.returns
returns c =
    let a = c.args in
    let manner = c.in_ok-write_manner.ensures in
    OnOk-map c.end_line.result c.end_line.ensures (λ e. (
      codes "serving " ++ addresses_text a.at.now ++ manner.0 ++ newline,
      (manner.0, manner.1, refl),
      four_parts (string_bytes a.out.now) (codes "serving ") (addresses_text a.at.now) manner.0 newline _ _ _ _ c.in_ok-push_str.ensures.bytes c.in_ok-write_addresses.ensures manner.2 e,
    ))
