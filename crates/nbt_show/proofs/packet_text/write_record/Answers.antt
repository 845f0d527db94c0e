use Rattle.std.proofs.Common.{[], ◌++◌, codes, sym, append_assoc}
use Rattle.std.proofs.lemmas.List.{append-nil}
use Rattle.std.specs.Fmt.{decimal}
use Rattle.nbt_packet.specs.Packet.{record_of}
use Rattle.nbt_show.specs.PacketText.{no_record, one_record, type_and_class, data_text}
use Rattle.nbt_text.specs.Lines.{newline}
use Rattle.nbt_text.proofs.Joining.{OnOk-map}
use Rattle.nbt_show.proofs.packet_text.write_record.Goals as goal

pub returns-in_default : goal.returns-in_default
returns-in_default c = ([], sym (append-nil _), rw c.in_default.is no_record)

pub returns : goal.returns
returns c =
    let name = c.in_ok-write_name.ensures in
    let r = c.in-Some.record in
    let label = c.args.label.now in
    OnOk-map c.end_line.result c.end_line.ensures (λ e. (
      label ++ codes " " ++ name.0 ++ type_and_class r.rtype r.class ++ codes " ttl " ++ decimal r.ttl ++ codes " data " ++ data_text r.rdata.now ++ newline,
      rw (e, c.in_ok-write_data.ensures, c.in_ok-write.ensures.bytes, c.in_ok-write_type_and_class.ensures, name.1, c.in_ok-push_str-2.ensures.bytes, c.in_ok-push_str.ensures.bytes) (simp append_assoc),
      rw c.in-Some.is (one_record (record_of r) name.0 (rw c.to_name.ensures at name.2)),
    ))
