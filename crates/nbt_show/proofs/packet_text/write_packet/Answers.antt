use Rattle.std.proofs.Common.{◌++◌, codes, append_assoc, ap}
use Rattle.std.specs.Fmt.{decimal}
use Rattle.nbt_packet.specs.Packet.{packet_of, decoded}
use Rattle.nbt_show.specs.PacketText.{packet_stands, fault_stands}
use Rattle.nbt_text.specs.Lines.{newline}
use Rattle.nbt_packet.specs.Numbers.{fault_word}
use Rattle.nbt_show.proofs.packet_text.write_packet.Goals as goal

pub returns-in_ok-writeln-in-Ok : goal.returns-in_ok-writeln-in-Ok
returns-in_ok-writeln-in-Ok c =
    let parts = c.in_ok-write_parts-in-Ok.ensures in
    let line = c.in_ok-writeln-in-Ok.ensures.bytes in
    let stands = (c.decode.ensures.packet (packet_of c.in-Ok.packet) c.in-Ok.length).0 (ap decoded c.in-Ok.is) in (
      parts.0 ++ codes "length " ++ decimal c.in-Ok.length ++ newline,
      rw (line, parts.1) (simp append_assoc),
      packet_stands (packet_of c.in-Ok.packet) c.in-Ok.length parts.0 stands parts.2,
    )

pub returns-in_ok-writeln-in-Err : goal.returns-in_ok-writeln-in-Err
returns-in_ok-writeln-in-Err c =
    let line = c.in_ok-writeln-in-Err.ensures.bytes in
    let word = c.word-word.ensures in (
      codes "fault " ++ fault_word c.in-Err.fault.kind ++ codes " at " ++ decimal c.in-Err.fault.place ++ newline,
      rw (line, word) (simp append_assoc),
      fault_stands c.in-Err.fault ((c.decode.ensures.fault c.in-Err.fault).0 (ap decoded c.in-Err.is)),
    )
