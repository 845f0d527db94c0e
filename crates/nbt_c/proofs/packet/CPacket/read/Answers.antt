use Rattle.nbt_c.proofs.Common.{ℕ, List, sym, subst, message, IsPacketIn, is_message}
use Rattle.nbt_c.proofs.packet.CPacket.read.Goals as goal

pub returns-then-self-eq-MESSAGE-clause-packet : goal.returns-then-self-eq-MESSAGE-clause-packet
returns-then-self-eq-MESSAGE-clause-packet c = subst (λ (octets : List ℕ). IsPacketIn c.args.self.now (message octets)) (sym c.new.ensures.items) (is_message c.if-self-eq-MESSAGE.true)
