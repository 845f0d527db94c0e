use Rattle.std.proofs.Common.{◌++◌, refl}
use Rattle.std.specs.Prelude.{codes}
use Rattle.std.specs.String.{string_bytes}
use Rattle.nbt_text.proofs.Joining.{OnOk-map}
use Rattle.nbt_text.specs.Address.{dotted}
use Rattle.nbt_text.specs.Lines.{newline}
use Rattle.nbt_scan.specs.Json.{member, next, string, server_value, unit_value}
use Rattle.nbt_scan.proofs.Parts.{nine_parts}
use Rattle.nbt_scan.proofs.json.write_object.Goals as goal

pub returns : goal.returns
returns c =
    let host = c.args.host.now in
    let computer = c.in_ok-write_name.ensures in
    let group = c.in_ok-write_name-2.ensures in
    let user = c.in_ok-write_name-3.ensures in
    let list = c.in_ok-write_names.ensures in
    let address = member (codes "{") (codes "address") (string (dotted c.args.ip)) in
    let line = address ++ next (codes "computer") computer.0 ++ next (codes "workgroup") group.0 ++ next (codes "user") user.0 ++ next (codes "server") (server_value host.server) ++ next (codes "unit_id") (unit_value host.unit) ++ next (codes "names") list.0
    ++ codes "}" ++ newline in
    OnOk-map c.end_line.result c.end_line.ensures (λ e. (
      line,
      record { computer = computer.0; group = group.0; user = user.0; list = list.0; computer_is = computer.1; group_is = group.1; user_is = user.1; list_is = list.1; line_is = refl },
      nine_parts (string_bytes c.args.out.now) address (next (codes "computer") computer.0) (next (codes "workgroup") group.0) (next (codes "user") user.0) (next (codes "server") (server_value host.server)) (next (codes "unit_id") (unit_value host.unit))
          (next (codes "names") list.0) (codes "}") newline
          (string_bytes c.write_address.new.out) (string_bytes c.write_name.new.out) (string_bytes c.write_name-2.new.out) (string_bytes c.write_name-3.new.out) (string_bytes c.write_server.new.out) (string_bytes c.write_unit.new.out) (string_bytes c.write_names.new.out)
          (string_bytes c.push_str.new.self) (string_bytes c.end_line.new.out)
          c.in_ok-write_address.ensures computer.2 group.2 user.2 c.in_ok-write_server.ensures c.in_ok-write_unit.ensures list.2 c.in_ok-push_str.ensures.bytes e,
    ))
