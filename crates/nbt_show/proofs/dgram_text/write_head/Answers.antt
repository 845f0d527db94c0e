use Rattle.std.proofs.Common.{◌≡◌, ◌∙◌, ◌++◌, ap, codes}
use Rattle.std.specs.String.{string_bytes}
use Rattle.nbt_dgram.specs.Dgram.{body_of, type_of}
use Rattle.nbt_dgram.specs.Numbers.{type_number}
use Rattle.nbt_text.specs.Address.{address_text}
use Rattle.nbt_show.specs.DgramText.{two_digits}
use Rattle.nbt_show.specs.PacketText.{four_digits}
use Rattle.nbt_text.specs.Lines.{newline}
use Rattle.nbt_text.proofs.Joining.{OnOk-map, five_parts}
use Rattle.nbt_show.proofs.dgram_text.write_head.Goals as goal

pub returns : goal.returns
returns c =
    let number : c.number.result ≡ type_number (type_of (body_of c.args.dgram.now.body)) = c.number.ensures ∙ ap type_number c.msg_type.ensures in
    let type = rw number at c.in_ok-write_octet.ensures in
    let front = five_parts (string_bytes c.args.out.now) (codes "type ") (two_digits (type_number (type_of (body_of c.args.dgram.now.body)))) (codes " flags ") (two_digits c.args.flags) (codes " id ")
    (string_bytes c.push_str.new.self) (string_bytes c.write_octet.new.out) (string_bytes c.push_str-2.new.self) (string_bytes c.write_octet-2.new.out) (string_bytes c.push_str-3.new.self)
    c.in_ok-push_str.ensures.bytes type c.in_ok-push_str-2.ensures.bytes c.in_ok-write_octet-2.ensures c.in_ok-push_str-3.ensures.bytes in
    OnOk-map c.end_line.result c.end_line.ensures (λ e.
    five_parts (string_bytes c.args.out.now) (codes "type " ++ two_digits (type_number (type_of (body_of c.args.dgram.now.body))) ++ codes " flags " ++ two_digits c.args.flags ++ codes " id ")
    (four_digits c.args.dgram.now.id) (codes " from ") (address_text c.args.dgram.now.source) newline
    (string_bytes c.push_str-3.new.self) (string_bytes c.write_word.new.out) (string_bytes c.push_str-4.new.self) (string_bytes c.write_address.new.out) (string_bytes c.end_line.new.out)
    front c.in_ok-write_word.ensures c.in_ok-push_str-4.ensures.bytes c.in_ok-write_address.ensures e)
