-- What a message that is read says of registrations and overwrites.
use Rattle.std.proofs.Common.{◌≡◌, ℕ, List, Bool, Some, None, refl}
use Rattle.std.specs.Prelude.{Option, IsTrue, ◌↔◌}
use Rattle.nbt_name.specs.declared.addr.Kind.TheVariants.{Unique, Group}
use Rattle.nbt_packet.specs.declared.message.Message.{Message}
use Rattle.nbt_packet.specs.declared.message.Message.TheVariants as m
use Rattle.nbt_packet.specs.declared.message.Registration.{Registration}
use Rattle.nbt_packet.specs.Message.{MessageValue, message_of, message_if, registration, overwrite}
use Rattle.nbt_packet.specs.Spelling.{Spells}
use Rattle.nbt_serve.specs.declared.samba.Asked.{Asked}
use Rattle.nbt_serve.specs.declared.samba.Asked.TheVariants.{Overwrite}
use Rattle.nbt_serve.specs.Inner.SambaRequests.{Meets}

-- the message that was read is the one that the octets spell
abbrev pub Reads : Option Message → List ℕ → Type 0
Reads found octets = (message : MessageValue) → (message_if found ≡ Some message) ↔ Spells octets message

-- nothing is read, so nothing is spelled
pub reads_none : (found : Option Message) (octets : List ℕ) → Reads found octets → found ≡ None → (message : MessageValue) → ¬ Spells octets message
reads_none found octets reads none message s = let e = rw none at ((reads message).1 s) in absurd cc

pub reads_this : (found : Option Message) (octets : List ℕ) (message : Message) → Reads found octets → found ≡ Some message → Spells octets (message_of message)
reads_this found octets message reads is = (reads (message_of message)).0 (rw is refl)

some_message : {a b : MessageValue} → ◌≡◌ {A = Option MessageValue} (Some a) (Some b) → a ≡ b
some_message e = cc

pub reads_one : (found : Option Message) (octets : List ℕ) (message : Message) → Reads found octets → found ≡ Some message → (other : MessageValue) → Spells octets other → message_of message ≡ other
reads_one found octets message reads is other s = some_message (rw is at ((reads other).1 s))

-- what is no registration, and no overwrite, isn't that of a value either
pub no_registration : (message : Message) → ((r : Registration) → message ≡ m.Registration r → ⊥) → (s : Registration) → message_of message ≡ registration s → ⊥
no_registration (m.Registration r) none s e = none r refl
no_registration (m.Overwrite r) none s e = absurd cc
no_registration (m.Refresh r) none s e = absurd cc
no_registration (m.Release id name kind addr) none s e = absurd cc
no_registration (m.Query id name) none s e = absurd cc
no_registration (m.StatusRequest id name) none s e = absurd cc
no_registration (m.Registered rcode r) none s e = absurd cc
no_registration (m.Released id rcode name kind addr) none s e = absurd cc
no_registration (m.Found id name ttl entries cut) none s e = absurd cc
no_registration (m.NotFound id rcode name) none s e = absurd cc
no_registration (m.Status id name names) none s e = absurd cc
no_registration (m.Wait id name ttl) none s e = absurd cc

pub no_overwrite : (message : Message) → ((r : Registration) → message ≡ m.Overwrite r → ⊥) → (s : Registration) → message_of message ≡ overwrite s → ⊥
no_overwrite (m.Registration r) none s e = absurd cc
no_overwrite (m.Overwrite r) none s e = none r refl
no_overwrite (m.Refresh r) none s e = absurd cc
no_overwrite (m.Release id name kind addr) none s e = absurd cc
no_overwrite (m.Query id name) none s e = absurd cc
no_overwrite (m.StatusRequest id name) none s e = absurd cc
no_overwrite (m.Registered rcode r) none s e = absurd cc
no_overwrite (m.Released id rcode name kind addr) none s e = absurd cc
no_overwrite (m.Found id name ttl entries cut) none s e = absurd cc
no_overwrite (m.NotFound id rcode name) none s e = absurd cc
no_overwrite (m.Status id name names) none s e = absurd cc
no_overwrite (m.Wait id name ttl) none s e = absurd cc

-- ---- a reader of one kind of message

one_some : {X : Type 0} {a b : X} → ◌≡◌ {A = Option X} (Some a) (Some b) → a ≡ b
one_some e = cc

pub finds_registration : (found : Option Message) (octets : List ℕ) (message : Message) (claim : Registration) → Reads found octets → found ≡ Some message → message ≡ m.Registration claim
    → (r : Registration) → (◌≡◌ {A = Option Registration} (Some claim) (Some r)) ↔ Spells octets (registration r)
finds_registration found octets message claim reads is claimed r =
    let spelled : Spells octets (registration claim) = rw claimed at (reads_this found octets message reads is) in
    (λ e. rw (← one_some e) spelled, λ s. let e : registration claim ≡ registration r = rw claimed at (reads_one found octets message reads is (registration r) s) in cc)

pub finds_none : (found : Option Message) (octets : List ℕ) (message : Message) → Reads found octets → found ≡ Some message → ((r : Registration) → message ≡ m.Registration r → ⊥)
    → (r : Registration) → (◌≡◌ {A = Option Registration} None (Some r)) ↔ Spells octets (registration r)
finds_none found octets message reads is none r = (λ e. absurd cc, λ s. absurd (no_registration message none r (reads_one found octets message reads is (registration r) s)))

pub finds_overwrite : (found : Option Message) (octets : List ℕ) (message : Message) (claim : Registration) → Reads found octets → found ≡ Some message → message ≡ m.Overwrite claim → claim.kind ≡ Group
    → (r : Registration) → (◌≡◌ {A = Option Registration} (Some claim) (Some r)) ↔ (Spells octets (overwrite r) × (r.kind ≡ Group))
finds_overwrite found octets message claim reads is claimed group r =
    let spelled : Spells octets (overwrite claim) = rw claimed at (reads_this found octets message reads is) in
    (λ e. (rw (← one_some e) spelled, rw (← one_some e) group), λ s. let e : overwrite claim ≡ overwrite r = rw claimed at (reads_one found octets message reads is (overwrite r) s.0) in cc)

pub finds_unique : (found : Option Message) (octets : List ℕ) (message : Message) (claim : Registration) → Reads found octets → found ≡ Some message → message ≡ m.Overwrite claim → claim.kind ≡ Unique
    → (r : Registration) → (◌≡◌ {A = Option Registration} None (Some r)) ↔ (Spells octets (overwrite r) × (r.kind ≡ Group))
finds_unique found octets message claim reads is claimed unique r =
    (λ e. absurd cc, λ s. let e : overwrite claim ≡ overwrite r = rw claimed at (reads_one found octets message reads is (overwrite r) s.0) in let same : claim ≡ r = cc in absurd (let k : Group ≡ Unique = rw (same, s.1) at unique in cc))

pub finds_no_overwrite : (found : Option Message) (octets : List ℕ) (message : Message) → Reads found octets → found ≡ Some message → ((r : Registration) → message ≡ m.Overwrite r → ⊥)
    → (r : Registration) → (◌≡◌ {A = Option Registration} None (Some r)) ↔ (Spells octets (overwrite r) × (r.kind ≡ Group))
finds_no_overwrite found octets message reads is none r = (λ e. absurd cc, λ s. absurd (no_overwrite message none r (reads_one found octets message reads is (overwrite r) s.0)))

-- the registration that was found is the one that was asked for
pub met_by_one : (found : Option Registration) (octets : List ℕ) (claim group : Registration) (asked : Asked) (answer : Bool) → ((r : Registration) → (found ≡ Some r) ↔ Spells octets (registration r)) → found ≡ Some claim → asked ≡ Overwrite group
    → IsTrue answer ↔ (group ≡ claim) → IsTrue answer ↔ ((r : Registration) × Spells octets (registration r) × Meets asked r)
met_by_one found octets claim group asked answer finds is asks same = (
  λ t. (claim, (finds claim).0 is, rw asks (same.0 t)),
  λ met. let e = (finds met.0).1 met.1 in let one : claim ≡ met.0 = one_some (rw is at e) in let met_is : group ≡ met.0 = rw asks at met.2 in same.1 cc,
)
