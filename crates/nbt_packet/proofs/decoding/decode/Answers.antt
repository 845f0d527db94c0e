use Rattle.std.proofs.Common.{ℕ, List, Result, Ok, Err}
use Rattle.nbt_packet.proofs.Common.{IfOk, IfErr, Fault, Packet, PacketIs, PacketFault, packet_of, decoded}
use Rattle.nbt_name.proofs.Readers.{value_iff, fault_iff}
use Rattle.nbt_packet.proofs.OnePacket.{reads_packet}
use Rattle.nbt_packet.proofs.decoding.decode.Goals as goal

-- what is found stands there, as a value
value_found : (octets : List ℕ) (r : Result (Packet × ℕ) Fault) → IfOk r (λ read. PacketIs octets (packet_of read.0) read.1) → IfOk (decoded r) (λ x. PacketIs octets x.0 x.1)
value_found octets (Ok read) is = is
value_found octets (Err fault) is = tt

fault_found : (octets : List ℕ) (r : Result (Packet × ℕ) Fault) → IfErr r (PacketFault octets) → IfErr (decoded r) (PacketFault octets)
fault_found octets (Ok read) bad = tt
fault_found octets (Err fault) bad = bad

pub returns-clause-packet : goal.returns-clause-packet
returns-clause-packet c = λ packet n.
    let octets = c.args.octets.now in
    value_iff (reads_packet octets) (decoded c.packet_at.result) (value_found octets c.packet_at.result c.packet_at.ensures.packet) (fault_found octets c.packet_at.result c.packet_at.ensures.fault) (packet, n)

pub returns-clause-fault : goal.returns-clause-fault
returns-clause-fault c =
    let octets = c.args.octets.now in
    fault_iff (reads_packet octets) (decoded c.packet_at.result) (value_found octets c.packet_at.result c.packet_at.ensures.packet) (fault_found octets c.packet_at.result c.packet_at.ensures.fault)
