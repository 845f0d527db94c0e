use Rattle.std.proofs.Common.{◌++◌, ◌∙◌, ap, List, ℕ, refl}
use Rattle.std.specs.String.{string_bytes}
use Rattle.nbt_text.proofs.Joining.{OnOk-map}
use Rattle.nbt_text.specs.Address.{dotted}
use Rattle.nbt_text.specs.Lines.{newline}
use Rattle.nbt_scan.specs.Cells.{column, server_word, unit_word}
use Rattle.nbt_scan.proofs.Parts.{seven_parts}
use Rattle.nbt_scan.proofs.columns.write_columns.Goals as goal

pub returns : goal.returns
returns c =
    let host = c.args.host.now in
    let computer = c.in_ok-write_name_column.ensures in
    let group = c.in_ok-write_name_column-2.ensures in
    let user = c.in_ok-write_name_column-3.ensures in
    let line = column 15 (dotted c.args.ip) ++ column 15 computer.0 ++ column 15 group.0 ++ column 15 user.0 ++ column 6 (server_word host.server) ++ unit_word host.unit ++ newline in
    let before = string_bytes c.write_name_column-3.new.out in
    OnOk-map c.end_line.result c.end_line.ensures (λ e. (
      line,
      record { computer = computer.0; group = group.0; user = user.0; computer_is = computer.1; group_is = group.1; user_is = user.1; line_is = refl },
      seven_parts (string_bytes c.args.out.now) (column 15 (dotted c.args.ip)) (column 15 computer.0) (column 15 group.0) (column 15 user.0) (column 6 (server_word host.server)) (unit_word host.unit) newline
          (string_bytes c.write_address.new.out) (string_bytes c.write_name_column.new.out) (string_bytes c.write_name_column-2.new.out) before (string_bytes c.write_column.new.out) (string_bytes c.write_unit.new.out) (string_bytes c.end_line.new.out)
          c.in_ok-write_address.ensures computer.2 group.2 user.2 (c.in_ok-write_column.ensures ∙ ap (λ (w : List ℕ). before ++ column 6 w) c.server_word.ensures) c.in_ok-write_unit.ensures e,
    ))
