-- Session packets in octets: a header, and what it counts; and which packets are no messages.
use Rattle.nbt_c.proofs.Common.{◌≡◌, ◌≢◌, ℕ, ◌/◌, ◌%◌, List, ◌∷◌, ◌++◌, length, sym, subst, ap, ◌∙◌, NameValue, wire, Message, PacketValue, request, octet_of, type_of, IsPacketIn, is_message}
use Rattle.nbt_session.specs.Packet.{text}
use Rattle.nbt_c.specs.declared.packet.CPacket.{CPacket}

-- a header of a kind, and the octets
abbrev pub framed_by : ℕ → List ℕ → List ℕ
framed_by kind body = kind ∷ length body / 65536 ∷ length body / 256 % 256 ∷ length body % 256 ∷ body

pub request_is : (called calling : NameValue) (body octets : List ℕ) → octets ≡ framed_by 0x81 body → body ≡ wire called ++ wire calling → octets ≡ text (request called calling)
request_is called calling body octets is names = is ∙ ap (framed_by 0x81) names

-- an answer and octets may be given by equal ones
pub given_by : (P : ℕ → List ℕ → Type 0) {n n' : ℕ} {xs ys : List ℕ} → n ≡ n' → xs ≡ ys → P n' ys → P n xs
given_by P at same = subst (λ (w : ℕ × List ℕ). P w.0 w.1) (λ i. (sym at i, sym same i))

-- what C passes as another kind is no message
pub no_message : {held : CPacket} {packet : PacketValue} → IsPacketIn held packet → held.kind ≢ octet_of Message → type_of packet ≢ Message
no_message (is_message is) differs = absurd (differs is)
no_message other differs = λ e. absurd cc
