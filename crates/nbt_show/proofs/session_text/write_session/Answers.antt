use Rattle.std.proofs.Common.{◌≡◌, ◌++◌, subst}
use Rattle.std.specs.String.{string_bytes}
use Rattle.nbt_session.specs.declared.fault.Fault.{Fault}
use Rattle.nbt_show.specs.SessionText.{PrintsPacketLine, rest_follows, fault_follows, rest_line, session_fault_line}
use Rattle.nbt_text.proofs.Joining.{two_parts}
use Rattle.nbt_show.proofs.Sessions.{all_printed, one_printed, partial_fault}
use Rattle.nbt_show.proofs.session_text.write_session.Goals as goal

pub packets-preserved-in_ok-write_packet_line-in-Ok-Some : goal.packets-preserved-in_ok-write_packet_line-in-Ok-Some
packets-preserved-in_ok-write_packet_line-in-Ok-Some c =
    one_printed PrintsPacketLine c.args.octets.now c.packets.rest.now (string_bytes c.args.out.now) (string_bytes c.packets.out) (string_bytes c.write_packet_line.new.out) c.next_packet.new.pieces _ _ c.in-Ok-Some.field-0-is c.in-Ok-Some.ensures.whole c.in-Ok-Some.ensures.anew c.packets.invariant.printed c.in_ok-write_packet_line-in-Ok-Some.ensures

pub packets-preserved-in_ok-write_packet_line-in-Ok-Some-2 : goal.packets-preserved-in_ok-write_packet_line-in-Ok-Some-2
packets-preserved-in_ok-write_packet_line-in-Ok-Some-2 c =
    one_printed PrintsPacketLine c.args.octets.now c.packets.rest.now (string_bytes c.args.out.now) (string_bytes c.packets.out) (string_bytes c.write_packet_line.new.out) c.next_packet.new.pieces _ _ c.in-Ok-Some.field-0-is c.in-Ok-Some.ensures.whole c.in-Ok-Some.ensures.anew c.packets.invariant.printed c.in_ok-write_packet_line-in-Ok-Some.ensures

pub packets-preserved : goal.packets-preserved
packets-preserved c =
    one_printed PrintsPacketLine c.args.octets.now c.packets.rest.now (string_bytes c.args.out.now) (string_bytes c.packets.out) (string_bytes c.write_packet_line.new.out) c.next_packet.new.pieces _ _ c.in-Ok-Some.field-0-is c.in-Ok-Some.ensures.whole c.in-Ok-Some.ensures.anew c.packets.invariant.printed c.in_ok-write_packet_line-in-Ok-Some.ensures

pub returns-in-Ok-None : goal.returns-in-Ok-None
returns-in-Ok-None c =
    let rest = c.packets.rest.now in
    let before = c.packets.invariant.printed in
    let line = c.in_ok-write_rest-in-Ok-None.ensures in
    let partial = rw c.in-Ok-None.field-0-is at c.in-Ok-None.ensures.partial in
    let sound = rw c.in-Ok-None.field-0-is at c.in-Ok-None.ensures.sound in
    let all = all_printed PrintsPacketLine c.args.octets.now rest before.0 partial before.2 in (
      before.0 ++ rest_line rest,
      two_parts (string_bytes c.args.out.now) (string_bytes c.packets.out) (string_bytes c.write_rest.new.out) before.0 (rest_line rest) before.1 line,
      rest_follows all.0 rest before.0 all.1 sound all.2,
    )

pub returns-in-Err-Malformed : goal.returns-in-Err-Malformed
returns-in-Err-Malformed c =
    let rest = c.packets.rest.now in
    let fault = c.in-Err-Malformed.fault in
    let before = c.packets.invariant.printed in
    let line = subst (λ (x : Fault). string_bytes c.write_fault.new.out ≡ string_bytes c.packets.out ++ session_fault_line x) c.in-Err-Malformed.fault-is c.in_ok-write_fault-in-Err-Malformed.ensures in
    let same = c.in-Err-Malformed.field-0-is in
    let has = c.in-Err-Malformed.ensures.fault fault cc in
    let all = all_printed PrintsPacketLine c.args.octets.now rest before.0 (partial_fault c.text_is_read.ensures.no_fault rest fault has) before.2 in (
      before.0 ++ session_fault_line fault,
      two_parts (string_bytes c.args.out.now) (string_bytes c.packets.out) (string_bytes c.write_fault.new.out) before.0 (session_fault_line fault) before.1 line,
      fault_follows all.0 rest before.0 fault all.1 has all.2,
    )
