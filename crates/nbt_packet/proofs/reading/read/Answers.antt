use Rattle.std.proofs.Common.{◌≡◌, ℕ, refl, ap}
use Rattle.nbt_packet.proofs.Common.{Result, Ok, Fault, PacketValue, packet_of}
use Rattle.nbt_packet.proofs.reading.read.Goals as goal

one_read : {x y : PacketValue × ℕ} → ◌≡◌ {A = Result (PacketValue × ℕ) Fault} (Ok x) (Ok y) → x ≡ y
one_read e = cc

pub returns-in_default : goal.returns-in_default
returns-in_default c = λ message. (λ e. absurd cc, λ s. let e = (c.in_default.ensures.packet s.packet s.taken).1 s.packet_is in absurd cc)

pub returns : goal.returns
returns c = λ message. (
  λ e. record {
    packet = packet_of c.in-Ok.packet;
    taken = c.in-Ok.field-0-1;
    packet_is = (c.in-Ok.ensures.packet (packet_of c.in-Ok.packet) c.in-Ok.field-0-1).0 refl;
    message_is = (c.classify.ensures message).0 e;
  },
  λ s. (c.classify.ensures message).1 (rw (ap (λ (read : PacketValue × ℕ). read.0) (one_read ((c.in-Ok.ensures.packet s.packet s.taken).1 s.packet_is))) s.message_is),
)
