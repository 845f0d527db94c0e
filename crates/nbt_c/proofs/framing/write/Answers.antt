use Rattle.nbt_c.proofs.Common.{refl, packet_of, WritesPacket, is_written, has_message}
use Rattle.nbt_c.specs.Sessions.{is_refused}
use Rattle.nbt_c.proofs.Framed.{given_by, no_message}
use Rattle.nbt_c.proofs.framing.write.Goals as goal

pub returns-then-packet-eq-MESSAGE : goal.returns-then-packet-eq-MESSAGE
returns-then-packet-eq-MESSAGE c = given_by (WritesPacket c.args.packet.now) refl c.clear.ensures (has_message c.if-packet-eq-MESSAGE.true)

pub put_text-requires : goal.put_text-requires
put_text-requires c = no_message c.in-Ok.ensures.packet c.if-packet-eq-MESSAGE.false

pub returns-in-Ok : goal.returns-in-Ok
returns-in-Ok c = given_by (WritesPacket c.args.packet.now) refl c.put_text.ensures (is_written (packet_of c.in-Ok.read) c.if-packet-eq-MESSAGE.false c.in-Ok.ensures.packet)

pub returns-in-Err : goal.returns-in-Err
returns-in-Err c = given_by (WritesPacket c.args.packet.now) refl c.clear.ensures (is_refused c.in-Err.number c.if-packet-eq-MESSAGE.false c.in-Err.ensures.fault)
