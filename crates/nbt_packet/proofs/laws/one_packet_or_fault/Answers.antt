use Rattle.std.proofs.Common.{◌≡◌, ℕ, inl, inr}
use Rattle.nbt_packet.proofs.Common.{PacketValue}
use Rattle.nbt_packet.proofs.OnePacket.{reads_packet}
use Rattle.nbt_packet.proofs.laws.one_packet_or_fault.Goals as goal

pub returns-clause-found : goal.returns-clause-found
returns-clause-found c = λ octets fits. elim ((reads_packet octets).found fits) [ inl x ↦ inl (x.0.0, x.0.1, x.1) | inr f ↦ inr (f.0, f.1) ]

pub returns-clause-one_packet : goal.returns-clause-one_packet
returns-clause-one_packet c = λ octets p q m n a b. let same : ◌≡◌ {A = PacketValue × ℕ} (p, m) (q, n) = (reads_packet octets).one_value (p, m) (q, n) a b in (λ i. (same i).0, λ i. (same i).1)

pub returns-clause-one_fault : goal.returns-clause-one_fault
returns-clause-one_fault c = λ octets f g fits. (reads_packet octets).one_fault f g

pub returns-clause-not_both : goal.returns-clause-not_both
returns-clause-not_both c = λ octets packet n fault fits. (reads_packet octets).not_both (packet, n) fault
