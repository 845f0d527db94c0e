-- What is taken spells a registration, and what a port hands on of a call.
use Rattle.std.proofs.Common.{◌≡◌, ℕ, List, length, Bool, true, false, Some, None, Ok, Err, refl}
use Rattle.std.specs.Prelude.{Option, Result, IsTrue, MatchBool, is_some, ◌↔◌}
use Rattle.std.specs.List.{refill}
use Rattle.std.proofs.lemmas.List.{length-set, take_at}
use Rattle.nbt_name.specs.declared.addr.Kind.TheVariants.{Group}
use Rattle.nbt_name.specs.Words.{word_at}
use Rattle.nbt_packet.specs.declared.message.Registration.{Registration}
use Rattle.nbt_packet.specs.Message.{MessageValue, Requests, IsRequest, DesiresRecursion, opcode_of, registration, overwrite}
use Rattle.nbt_packet.specs.Spelling.{Spells}
use Rattle.nbt_port.specs.declared.port.Route.{Route}
use Rattle.nbt_port.specs.declared.port.Device.{Device}
use Rattle.nbt_port.specs.PortCalls.{came, receiving, sending}
use Rattle.nbt_serve.specs.Samba.{multi_homed, as_registration, IsTaken, by_opcode, by_group}
use Rattle.nbt_serve.specs.declared.samba.Asked.{Asked}
use Rattle.nbt_serve.specs.declared.samba.Asked.TheVariants.{MultiHomed, Overwrite}
use Rattle.nbt_serve.specs.Inner.SambaRequests.{Asks, Meets}
use Rattle.nbt_serve.specs.SambaPort.{IsOther, Becomes, taken, unchanged}

pub spelled : (octets : List ℕ) (r : Registration) → IsTaken octets r → Spells (as_registration octets) (registration r)
spelled octets r (by_opcode requests s) = s
spelled octets r (by_group own kind s) = s

-- what is asked for is taken where it is met, and nothing else is
pub taken_by : (octets : List ℕ) (asked : Asked) (r : Registration) → Asks octets asked → Spells (as_registration octets) (registration r) → Meets asked r → IsTaken octets r
taken_by octets MultiHomed r asks s met = by_opcode asks s
taken_by octets (Overwrite group) r asks s met = by_group (rw (← met) asks.0) (rw (← met) asks.1) s

abbrev pub OneSpelled : List ℕ → Type 0
OneSpelled octets = (m n : MessageValue) → Spells octets m → Spells octets n → m ≡ n

one_overwrite : {r s : Registration} → overwrite r ≡ overwrite s → r ≡ s
one_overwrite e = cc

met_by : (octets : List ℕ) → OneSpelled octets → (asked : Asked) (r : Registration) → Asks octets asked → IsTaken octets r → Meets asked r
met_by octets one MultiHomed r asks t = tt
met_by octets one (Overwrite group) r asks (by_opcode requests s) = absurd (asks.2 requests)
met_by octets one (Overwrite group) r asks (by_group own kind s) = one_overwrite (one (overwrite group) (overwrite r) asks.0 own)

pub met_is_taken : (octets changed : List ℕ) → changed ≡ as_registration octets → OneSpelled octets → (asked : Asked) → Asks octets asked → (answer : Bool)
    → (IsTrue answer ↔ ((r : Registration) × Spells changed (registration r) × Meets asked r)) → IsTrue answer ↔ ((r : Registration) × IsTaken octets r)
met_is_taken octets changed is one asked asks answer met = (
  λ yes_taken. let m = met.0 yes_taken in (m.0, taken_by octets asked m.0 asks (rw (← is) m.1) m.2),
  λ t. met.1 (t.0, rw is (spelled octets t.0 t.1), met_by octets one asked t.0 asks t.1),
)

-- what is no request of OPCODE 15, and overwrites no group, isn't taken
pub untaken : (octets : List ℕ) → (Requests (word_at octets 2) multi_homed → ⊥) → ((r : Registration) → Spells octets (overwrite r) × (r.kind ≡ Group) → ⊥) → (r : Registration) → IsTaken octets r → ⊥
untaken octets other none r (by_opcode requests s) = other requests
untaken octets other none r (by_group own kind s) = none r (own, kind)

-- an overwrite's flags
pub overwrite_flags : (octets : List ℕ) (r : Registration) → Spells octets (overwrite r) → IsRequest (word_at octets 2) × (opcode_of (word_at octets 2) ≡ 5) × (¬ DesiresRecursion (word_at octets 2))
overwrite_flags octets r s = rw (← s.packet_is.flags) (s.message_is.0.request, s.message_is.0.opcode_is, s.message_is.1)

pub one_claim : {r s : Registration} → registration r ≡ registration s → r ≡ s
one_claim e = cc

-- a send is no datagram that came, and a receive of nothing isn't one either
pub sent_is_other : {A : Type 0} (to : Route) (octets : List ℕ) (result : Result A Device) → IsOther (sending to octets result)
sent_is_other to octets (Ok done) = λ from others r e t. absurd cc
sent_is_other to octets (Err failure) = λ from others r e t. absurd cc

pub failed_is_other : (octets : List ℕ) (failure : Device) → IsOther (receiving (Err failure) octets)
failed_is_other octets failure = λ from others r e t. absurd cc

nothing_is_other : (octets : List ℕ) → IsOther (receiving (Ok None) octets)
nothing_is_other octets = λ from others r e t. absurd cc

came_octets : {a b : Route} {x y : List ℕ} → came a x ≡ came b y → x ≡ y
came_octets e = cc

untaken_is_other : (from : Route) (octets : List ℕ) → (((r : Registration) × IsTaken octets r) → ⊥) → IsOther (came from octets)
untaken_is_other from octets none = λ other others r e t. none (r, rw (came_octets e) t)

-- ---- what is handed on

-- as many octets fill up what they are written to
refill_whole : (old new : List ℕ) → length new ≡ length old → refill (length old) old new ≡ new
refill_whole old new same = take_at new _ (length old) same

pub hands_nothing : (from : Option Route) (octets : List ℕ) → false ≡ is_some from → Becomes (receiving (Ok from) octets) (receiving (Ok from) octets)
hands_nothing None octets none = unchanged (receiving (Ok None) octets) (nothing_is_other octets)
hands_nothing (Some from) octets none = absurd cc

pub hands_on : (from : Option Route) (old lent new : List ℕ) (answer : Bool) → true ≡ is_some from → lent ≡ old → IsTrue answer ↔ ((r : Registration) × IsTaken lent r) → MatchBool answer (new ≡ as_registration lent) (new ≡ lent)
    → Becomes (receiving (Ok from) old) (receiving (Ok from) (refill (length old) old new))
hands_on None old lent new answer some same is_taken written = absurd cc
hands_on (Some from) old lent new true some same is_taken written =
    let t = is_taken.0 refl in
    let new_is : new ≡ as_registration old = rw same at written in
    rw (refill_whole old new (rw new_is (length-set old 2 _)), new_is) (taken from old t.0 (rw same at t.1))
hands_on (Some from) old lent new false some same is_taken written =
    let new_is : new ≡ old = rw same at written in
    rw (refill_whole old new (rw new_is refl), new_is) (unchanged (came from old) (untaken_is_other from old (λ t. let e = is_taken.1 (t.0, rw same t.1) in absurd cc)))
