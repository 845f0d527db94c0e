use Rattle.std.proofs.Common.{◌++◌, codes, append_assoc, ap}
use Rattle.std.specs.Fmt.{decimal}
use Rattle.std.specs.String.{string_bytes}
use Rattle.nbt_dgram.specs.Dgram.{dgram_of, decoded}
use Rattle.nbt_dgram.specs.Fields.{octet_at}
use Rattle.nbt_show.specs.DgramText.{dgram_stands, fault_stands, head_line}
use Rattle.nbt_text.specs.Lines.{newline}
use Rattle.nbt_dgram.specs.Numbers.{fault_word}
use Rattle.nbt_show.proofs.Datagrams.{flags_there}
use Rattle.nbt_text.proofs.Joining.{two_parts}
use Rattle.nbt_show.proofs.dgram_text.write_dgram.Goals as goal

pub bounds-octets-1 : goal.bounds-octets-1
bounds-octets-1 c = flags_there c.args.octets.now (dgram_of c.in-Ok.dgram) c.in-Ok.length ((c.decode.ensures.dgram (dgram_of c.in-Ok.dgram) c.in-Ok.length).0 (ap decoded c.in-Ok.is))

pub returns-in_ok-writeln-in-Ok : goal.returns-in_ok-writeln-in-Ok
returns-in_ok-writeln-in-Ok c =
    let old = string_bytes c.args.out.now in
    let first = head_line (octet_at c.args.octets.now 1) (dgram_of c.in-Ok.dgram) in
    let head = c.in_ok-write_head-in-Ok.ensures in
    let body = c.in_ok-write_body-in-Ok.ensures in
    let line = c.in_ok-writeln-in-Ok.ensures.bytes in
    let stands = (c.decode.ensures.dgram (dgram_of c.in-Ok.dgram) c.in-Ok.length).0 (ap decoded c.in-Ok.is) in (
      first ++ body.0 ++ (codes "length " ++ decimal c.in-Ok.length ++ newline),
      two_parts old (string_bytes c.write_body.new.out) (string_bytes c.writeln.new.self) (first ++ body.0) (codes "length " ++ decimal c.in-Ok.length ++ newline)
          (two_parts old (string_bytes c.write_head.new.out) (string_bytes c.write_body.new.out) first body.0 head body.1) line,
      dgram_stands (dgram_of c.in-Ok.dgram) c.in-Ok.length body.0 stands body.2,
    )

pub returns-in_ok-writeln-in-Err : goal.returns-in_ok-writeln-in-Err
returns-in_ok-writeln-in-Err c =
    let line = c.in_ok-writeln-in-Err.ensures.bytes in
    let word = c.word-word.ensures in (
      codes "fault " ++ fault_word c.in-Err.fault.kind ++ codes " at " ++ decimal c.in-Err.fault.place ++ newline,
      rw (line, word) (simp append_assoc),
      fault_stands c.in-Err.fault ((c.decode.ensures.fault c.in-Err.fault).0 (ap decoded c.in-Err.is)),
    )
