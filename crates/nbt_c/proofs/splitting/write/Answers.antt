use Rattle.nbt_c.proofs.Common.{◌≡◌, length, sym, ap, ◌∙◌, dgram_of, octets_of}
use Rattle.nbt_dgram.specs.Text.{text}
use Rattle.nbt_c.proofs.Packets.{found_packet, no_packet, is_done, written_so}
use Rattle.nbt_c.proofs.splitting.write.Goals as goal

pub encode-requires : goal.encode-requires
encode-requires c =
    let at = c.in-Some.ensures.lookup in
    (c.requires.fits (dgram_of c.in-Some.packet.now) (found_packet c.args.packets.now c.args.which c.in-Some.packet.now at.3.0 at.1)).0

pub unwrap-requires : goal.unwrap-requires
unwrap-requires c =
    let at = c.in-Some.ensures.lookup in
    let d = dgram_of c.in-Some.packet.now in
    is_done c.encode.result (length (text d)) c.encode.ensures.full (c.requires.fits d (found_packet c.args.packets.now c.args.which c.in-Some.packet.now at.3.0 at.1)).1

pub returns-in-Some : goal.returns-in-Some
returns-in-Some c =
    let at = c.in-Some.ensures.lookup in
    let d = dgram_of c.in-Some.packet.now in
    let found = found_packet c.args.packets.now c.args.which c.in-Some.packet.now at.3.0 at.1 in
    written_so c.encode.result (c.encode.new.out.items ≡ text d) (length (text d)) c.encode.ensures.ok c.encode.ensures.full (c.requires.fits d found).1 ∙ sym (ap octets_of found)

pub returns-in_default : goal.returns-in_default
returns-in_default c = c.requires.empty ∙ sym (ap octets_of (no_packet c.args.packets.now c.args.which c.in_default.ensures.lookup.3))
