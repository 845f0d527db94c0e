use Rattle.nbt_c.proofs.Common.{sym, subst, arith, Addr, retarget, IsPacketIn}
use Rattle.nbt_c.specs.Sessions as is
use Rattle.nbt_c.proofs.packet.CPacket.read_other.Goals as goal

pub returns-in-130-clause-packet : goal.returns-in-130-clause-packet
returns-in-130-clause-packet c = is.IsPacketIn.is_positive c.in-130.is

pub returns-in-131-clause-packet : goal.returns-in-131-clause-packet
returns-in-131-clause-packet c = is.IsPacketIn.is_negative c.in-131.is

pub returns-in-132-clause-packet : goal.returns-in-132-clause-packet
returns-in-132-clause-packet c = subst (λ (to : Addr). IsPacketIn c.args.self.now (retarget to)) (sym c.addr.ensures) (is.IsPacketIn.is_retarget c.in-132.is)

pub returns-in-133-clause-packet : goal.returns-in-133-clause-packet
returns-in-133-clause-packet c = is.IsPacketIn.is_keep_alive c.in-133.is

pub returns-in_default-clause-fault : goal.returns-in_default-clause-fault
returns-in_default-clause-fault c =
    is.PacketFault.has_no_kind c.requires (λ e. omega (arith, e)) (λ e. omega (arith, e)) (λ e. omega (arith, e)) (λ e. omega (arith, e)) (λ e. omega (arith, e))
