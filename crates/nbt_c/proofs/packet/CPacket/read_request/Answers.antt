use Rattle.nbt_c.proofs.Common.{sym, subst, NameValue, request, IsPacketIn}
use Rattle.nbt_c.specs.Sessions as is
use Rattle.nbt_c.proofs.packet.CPacket.read_request.Goals as goal

pub returns-in_default-clause-fault : goal.returns-in_default-clause-fault
returns-in_default-clause-fault c = is.PacketFault.has_no_called c.requires c.in_default.ensures.none

pub returns-in_default-read-clause-fault : goal.returns-in_default-read-clause-fault
returns-in_default-read-clause-fault c = is.PacketFault.has_no_calling c.requires c.in-Some.ensures.read.0 c.in_default-read.ensures.none

pub returns-clause-packet : goal.returns-clause-packet
returns-clause-packet c =
    let called = c.in-Some.ensures.read in
    let calling = c.in-Some-read.ensures.read in
    subst (λ (w : NameValue × NameValue). IsPacketIn c.args.self.now (request w.0 w.1)) (λ i. (sym called.1 i, sym calling.1 i)) (is.IsPacketIn.is_request c.requires called.0 calling.0)
