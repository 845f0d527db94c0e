use Rattle.std.proofs.Common.{◌++◌, codes, append_assoc}
use Rattle.nbt_dgram.specs.Dgram.{fragment_of}
use Rattle.nbt_show.specs.DgramText.{of_fragment, of_error, of_lookup, data_line, name_line, two_digits}
use Rattle.nbt_text.specs.Lines.{newline}
use Rattle.nbt_text.proofs.Joining.{OnOk-map}
use Rattle.nbt_show.proofs.dgram_text.write_body.Goals as goal

pub returns-in_ok-write_part-in-Fragment : goal.returns-in_ok-write_part-in-Fragment
returns-in_ok-write_part-in-Fragment c =
    let names = c.in_ok-write_part-in-Fragment.ensures in
    let f = fragment_of c.in-Fragment.fragment in
    OnOk-map c.write_payload.result c.write_payload.ensures (λ e. (
      names.0 ++ data_line f,
      rw (e, names.1) (append_assoc _ names.0 (data_line f)),
      rw c.in-Fragment.is (of_fragment f names.0 names.2),
    ))

pub returns-in_ok-write_octet-in-Error : goal.returns-in_ok-write_octet-in-Error
returns-in_ok-write_octet-in-Error c = OnOk-map c.end_line.result c.end_line.ensures (λ e. (
  codes "error " ++ two_digits c.in-Error.code ++ newline,
  rw (e, c.in_ok-write_octet-in-Error.ensures, c.in_ok-push_str-in-Error.ensures.bytes) (simp append_assoc),
  rw c.in-Error.is (of_error c.in-Error.code),
))

pub returns-in-Lookup : goal.returns-in-Lookup
returns-in-Lookup c = OnOk-map c.write_name_line.result c.write_name_line.ensures (λ name. (
  name_line (codes "destination ") name.0,
  name.1,
  rw c.in-Lookup.is (of_lookup c.in-Lookup.field-0 c.in-Lookup.name name.0 name.2),
))
