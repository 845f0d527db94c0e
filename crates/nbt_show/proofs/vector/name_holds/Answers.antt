use Rattle.std.proofs.Common.{◌≡◌, ap, rules}
use Rattle.nbt_packet.specs.Packet.{PacketIs, packet_of, decoded}
use Rattle.nbt_show.proofs.Readings.{nothing_there, taken_is_one}
use Rattle.nbt_show.proofs.vector.name_holds.Goals as goal

pub returns-in-Ok-Ok : goal.returns-in-Ok-Ok
returns-in-Ok-Ok c =
    let read = ap decoded c.in-Ok-Ok.is-0 in
    let value = packet_of c.in-Ok-Ok.field-0-0-0 in
    let stands = (c.decode.ensures.packet value c.in-Ok-Ok.taken).0 read in
    rw c.in-Ok-Ok.is-1 (
      λ e. let same : c.in-Ok-Ok.taken ≡ c.in-Ok-Ok.expected = search rules in (value, rw (← same) stands),
      λ p. let same = taken_is_one (PacketIs c.args.octets.now) (decoded c.decode.result) value p.0 c.in-Ok-Ok.taken c.in-Ok-Ok.expected c.decode.ensures.packet read p.1 in search rules,
    )

pub returns-in_default-2 : goal.returns-in_default-2
returns-in_default-2 c =
    rw c.in_default.is-1 (
      λ e. absurd cc,
      λ p. absurd (nothing_there (PacketIs c.args.octets.now) (decoded c.decode.result) c.in_default.field-0-0 p.0 c.in_default.field-0-1 c.decode.ensures.packet (ap decoded c.in_default.is-0) p.1),
    )
