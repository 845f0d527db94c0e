-- Of what spells another message than an overwrite of a group nothing is taken.
use Rattle.std.proofs.Common.{◌≡◌, ℕ, ◌<◌, ◌≤◌, List, refl, arith, inl, inr}
use Rattle.nbt_packet.specs.declared.message.Registration.{Registration}
use Rattle.nbt_packet.specs.Packet.{PacketValue}
use Rattle.nbt_packet.specs.Message.{MessageValue, MessageIs, Requests, registration, overwrite, refresh, release, query, status_request, registered, released, found, not_found, status, wait}
use Rattle.nbt_packet.specs.Spelling.{Spells}
use Rattle.nbt_port.specs.declared.port.Route.{Route}
use Rattle.nbt_port.specs.PortCalls.{PortCall, came}
use Rattle.nbt_serve.specs.Samba.{multi_homed, IsTaken, by_opcode, by_group}
use Rattle.nbt_serve.specs.SambaPort.{Becomes, taken, unchanged, IsGroupOverwrite, ComesAsItIs}

-- a request's OPCODE is another one, and a response is no request
not_0 : {n : ℕ} → n ≡ 0 → n ≡ 15 → ⊥
not_0 e f = absurd cc

not_5 : {n : ℕ} → n ≡ 5 → n ≡ 15 → ⊥
not_5 e f = absurd cc

not_6 : {n : ℕ} → n ≡ 6 → n ≡ 15 → ⊥
not_6 e f = absurd cc

not_8 : {n : ℕ} → n ≡ 8 → n ≡ 15 → ⊥
not_8 e f = absurd cc

not_9 : {n : ℕ} → n ≡ 9 → n ≡ 15 → ⊥
not_9 e f = absurd cc

not_both : {n : ℕ} → 0x8000 ≤ n → n < 0x8000 → ⊥
not_both {n = n} above below = omega (arith, above, below)

-- no message has OPCODE 15
pub not_multi_homed : (p : PacketValue) (message : MessageValue) → MessageIs p message → Requests p.flags multi_homed → ⊥
not_multi_homed p (registration r) is asked = not_5 is.0.opcode_is asked.opcode_is
not_multi_homed p (overwrite r) is asked = not_5 is.0.opcode_is asked.opcode_is
not_multi_homed p (refresh r) (inl requests, claims) asked = not_8 requests.opcode_is asked.opcode_is
not_multi_homed p (refresh r) (inr requests, claims) asked = not_9 requests.opcode_is asked.opcode_is
not_multi_homed p (release id name kind addr) is asked = not_6 is.0.opcode_is asked.opcode_is
not_multi_homed p (query id name) is asked = not_0 is.1.opcode_is asked.opcode_is
not_multi_homed p (status_request id name) is asked = not_0 is.2 asked.opcode_is
not_multi_homed p (registered rcode r) (inl responds, _, _, _) asked = not_both responds.response asked.request
not_multi_homed p (registered rcode r) (inr (inl responds), _, _, _) asked = not_both responds.response asked.request
not_multi_homed p (registered rcode r) (inr (inr responds), _, _, _) asked = not_both responds.response asked.request
not_multi_homed p (released id rcode name kind addr) is asked = not_both is.0.response asked.request
not_multi_homed p (found id name ttl entries cut) is asked = not_both is.1.response asked.request
not_multi_homed p (not_found id rcode name) is asked = not_both is.1.response asked.request
not_multi_homed p (status id name names) is asked = not_both is.1.response asked.request
not_multi_homed p (wait id name ttl) is asked = not_both is.1.response asked.request

untaken : (octets : List ℕ) (message : MessageValue) → ((m n : MessageValue) → Spells octets m → Spells octets n → m ≡ n) → Spells octets message → ¬ IsGroupOverwrite message
    → (r : Registration) → IsTaken octets r → ⊥
untaken octets message one s other r (by_opcode requests claim) = not_multi_homed s.packet message s.message_is (rw s.packet_is.flags requests)
untaken octets message one s other r (by_group own kind claim) = other (rw (one message (overwrite r) s own) kind)

unchanged_by : (from : Route) (octets : List ℕ) (call : PortCall) → ((r : Registration) → IsTaken octets r → ⊥) → Becomes (came from octets) call → call ≡ came from octets
unchanged_by from octets call none (taken _ _ r t) = absurd (none r t)
unchanged_by from octets call none (unchanged _ other) = refl

pub comes_as_it_is : (octets : List ℕ) (message : MessageValue) → ((m n : MessageValue) → Spells octets m → Spells octets n → m ≡ n) → Spells octets message → ¬ IsGroupOverwrite message → ComesAsItIs octets
comes_as_it_is octets message one s other = record {
  nothing_taken = untaken octets message one s other;
  nothing_changed = λ from call. unchanged_by from octets call (untaken octets message one s other);
}
