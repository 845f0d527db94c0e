use Rattle.std.specs.String.{string_bytes}
use Rattle.nbt_text.proofs.Joining.{OnOk-map, two_parts}
use Rattle.nbt_scan.proofs.lines.write_long.Goals as goal

pub returns : goal.returns
returns c =
    let first = c.in_ok-write_columns.ensures in
    OnOk-map c.write_names_below.result c.write_names_below.ensures (λ x. (
      first.0,
      first.1,
      x.0,
      x.1,
      two_parts (string_bytes c.args.out.now) (string_bytes c.write_columns.new.out) (string_bytes c.write_names_below.new.out) first.0 x.0 first.2 x.2,
    ))
