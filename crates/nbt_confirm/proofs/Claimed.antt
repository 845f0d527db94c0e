-- What octets claim, by what a reader returned; and what leases let begin.
use Rattle.std.proofs.Common.{◌≡◌, ◌≢◌, ◌≤◌, ◌∷◌, [], ℕ, List, length, Bool, Some, None, refl}
use Rattle.std.specs.Prelude.{Option, IsTrue, ◌↔◌}
use Rattle.nbt_packet.specs.declared.message.Message.{Message}
use Rattle.nbt_packet.specs.declared.message.Message.TheVariants as code
use Rattle.nbt_packet.specs.declared.message.Registration.{Registration}
use Rattle.nbt_packet.specs.Message.{MessageValue, message_of, message_if, registration, refresh}
use Rattle.nbt_packet.specs.Spelling.{Spells}
use Rattle.nbt_lease.specs.declared.lease.Lease.{Lease}
use Rattle.nbt_name.specs.declared.addr.Kind.TheVariants.{Unique, Group}
use Rattle.nbt_server.specs.declared.outcome.Claim.{Claim}
use Rattle.nbt_server.specs.declared.outcome.Outcome.TheVariants.{Refused}
use Rattle.nbt_server.specs.declared.outcome.Refusal.TheVariants.{Active}
use Rattle.nbt_server.specs.Serving.{AsksFor, by_registration, by_refresh}
use Rattle.nbt_confirm.specs.Deciding.{Claims, IsLeasedBy, MayJoin}
use Rattle.nbt_confirm.proofs.Readings.{none_spelled, one_spelled, spelled_by}

-- the message that was read is the one that the octets spell
abbrev pub Reads : Option Message → List ℕ → Type 0
Reads found octets = (message : MessageValue) → (message_if found ≡ Some message) ↔ Spells octets message

-- the message that was read asks for this
pub data IsClaim (message : Message) (r : Registration) : Type 0 where
  is_registration : message ≡ code.Registration r → IsClaim message r
  is_refresh : message ≡ code.Refresh r → IsClaim message r

pub asks_so : (message : Message) (r : Registration) → IsClaim message r → AsksFor (message_of message) r
asks_so message r (is_registration is) = rw is (by_registration r)
asks_so message r (is_refresh is) = rw is (by_refresh r)

claim_asked : (message : Message) (m : MessageValue) (r : Registration) → message_of message ≡ m → AsksFor m r → IsClaim message r
claim_asked (code.Registration s) m q is (by_registration r) = let e : registration s ≡ registration r = is in let f : s ≡ r = cc in is_registration (rw f refl)
claim_asked (code.Refresh s) m q is (by_refresh r) = let e : refresh s ≡ refresh r = is in let f : s ≡ r = cc in is_refresh (rw f refl)
claim_asked (code.Registration s) m q is (by_refresh r) = absurd cc
claim_asked (code.Refresh s) m q is (by_registration r) = absurd cc
claim_asked (code.Overwrite s) m q is (by_registration r) = absurd cc
claim_asked (code.Overwrite s) m q is (by_refresh r) = absurd cc
claim_asked (code.Release id name kind addr) m q is (by_registration r) = absurd cc
claim_asked (code.Release id name kind addr) m q is (by_refresh r) = absurd cc
claim_asked (code.Query id name) m q is (by_registration r) = absurd cc
claim_asked (code.Query id name) m q is (by_refresh r) = absurd cc
claim_asked (code.StatusRequest id name) m q is (by_registration r) = absurd cc
claim_asked (code.StatusRequest id name) m q is (by_refresh r) = absurd cc
claim_asked (code.Registered rcode s) m q is (by_registration r) = absurd cc
claim_asked (code.Registered rcode s) m q is (by_refresh r) = absurd cc
claim_asked (code.Released id rcode name kind addr) m q is (by_registration r) = absurd cc
claim_asked (code.Released id rcode name kind addr) m q is (by_refresh r) = absurd cc
claim_asked (code.Found id name ttl entries cut) m q is (by_registration r) = absurd cc
claim_asked (code.Found id name ttl entries cut) m q is (by_refresh r) = absurd cc
claim_asked (code.NotFound id rcode name) m q is (by_registration r) = absurd cc
claim_asked (code.NotFound id rcode name) m q is (by_refresh r) = absurd cc
claim_asked (code.Status id name names) m q is (by_registration r) = absurd cc
claim_asked (code.Status id name names) m q is (by_refresh r) = absurd cc
claim_asked (code.Wait id name ttl) m q is (by_registration r) = absurd cc
claim_asked (code.Wait id name ttl) m q is (by_refresh r) = absurd cc

pub claimed : (found : Option Message) (octets : List ℕ) (message : Message) → Reads found octets → found ≡ Some message → (r : Registration) → IsClaim message r → Claims octets r
claimed found octets message reads is r claim = (message_of message, asks_so message r claim, spelled_by found octets message reads is)

pub claims_one : (found : Option Message) (octets : List ℕ) (message : Message) → Reads found octets → found ≡ Some message → (r : Registration) → Claims octets r → IsClaim message r
claims_one found octets message reads is r (m, asks, spelled) = claim_asked message m r (one_spelled found octets message reads is m spelled) asks

pub claims_none : (found : Option Message) (octets : List ℕ) → Reads found octets → found ≡ None → (r : Registration) → ¬ Claims octets r
claims_none found octets reads none r (m, asks, spelled) = none_spelled found octets reads none m spelled

one_claim : (message : Message) (r s : Registration) → IsClaim message r → IsClaim message s → r ≡ s
one_claim message r s (is_registration a) (is_registration b) = let e : code.Registration r ≡ code.Registration s = rw (← a) b in cc
one_claim message r s (is_refresh a) (is_refresh b) = let e : code.Refresh r ≡ code.Refresh s = rw (← a) b in cc
one_claim message r s (is_registration a) (is_refresh b) = let e : code.Registration r ≡ code.Refresh s = rw (← a) b in absurd cc
one_claim message r s (is_refresh a) (is_registration b) = let e : code.Refresh r ≡ code.Registration s = rw (← a) b in absurd cc

pub one_some : {a b : Registration} → ◌≡◌ {A = Option Registration} (Some a) (Some b) → a ≡ b
one_some e = cc

-- it is what the octets claim, and nothing else is
pub claims_this : (found : Option Message) (octets : List ℕ) (message : Message) → Reads found octets → found ≡ Some message → (claim : Registration) → IsClaim message claim
    → (r : Registration) → (◌≡◌ {A = Option Registration} (Some claim) (Some r)) ↔ Claims octets r
claims_this found octets message reads is claim of r = (
  λ e. claimed found octets message reads is r (rw (← one_some e) of),
  λ claims. let same : claim ≡ r = one_claim message claim r of (claims_one found octets message reads is r claims) in rw same refl,
)

-- what claims something has a header
pub has_header : (octets : List ℕ) (r : Registration) → Claims octets r → 12 ≤ length octets
has_header octets r (m, asks, spelled) = spelled.packet_is.header.0

-- a message that asks for nothing
pub claims_nothing : (found : Option Message) (octets : List ℕ) (message : Message) → Reads found octets → found ≡ Some message
    → ((r : Registration) → message ≡ code.Registration r → ⊥) → ((r : Registration) → message ≡ code.Refresh r → ⊥) → (r : Registration) → ¬ Claims octets r
claims_nothing found octets message reads is a b r claims = elim (claims_one found octets message reads is r claims) [
  | is_registration e ↦ a r e
  | is_refresh e ↦ b r e
]

pub one_refused : (a b : Claim) (m n : ℕ) → Refused a (Active m) ≡ Refused b (Active n) → (a ≡ b) × (m ≡ n)
one_refused a b m n e = (cc, cc)

-- ---- leases

pub join_next : (ip : ℕ) (whole old new : List Lease) (lease : Lease) → old ≡ lease ∷ new → (lease.kind ≡ Group) × (lease.addr ≢ ip) → MayJoin ip old ↔ MayJoin ip whole → MayJoin ip new ↔ MayJoin ip whole
join_next ip whole old new lease is joins same = (λ all. same.0 (rw is (joins, all)), λ all. let both = rw is at (same.1 all) in both.1)

pub join_one : (ip : ℕ) (whole old new : List Lease) (lease : Lease) → old ≡ lease ∷ new → MayJoin ip old ↔ MayJoin ip whole → MayJoin ip whole → (lease.kind ≡ Group) × (lease.addr ≢ ip)
join_one ip whole old new lease is same all = let both = rw is at (same.1 all) in both.0

pub join_none : (ip : ℕ) (whole old : List Lease) → old ≡ [] → MayJoin ip old ↔ MayJoin ip whole → MayJoin ip whole
join_none ip whole old is same = same.0 (rw is tt)

one_first : {a b : Lease} {xs ys : List Lease} → a ∷ xs ≡ b ∷ ys → a ≡ b
one_first e = cc

-- the first lease decides
pub leased_by_first : (holder : ℕ) (leases others : List Lease) (lease : Lease) → leases ≡ lease ∷ others → (answer : Bool) → (IsTrue answer ↔ ((lease.kind ≡ Unique) × (lease.addr ≡ holder)))
    → IsTrue answer ↔ IsLeasedBy holder leases
leased_by_first holder leases others lease is answer tells = (
  λ so. let both = tells.0 so in (lease, others, is, both.0, both.1),
  λ leased. let same : lease ≡ leased.0 = let e : lease ∷ others ≡ leased.0 ∷ leased.1 = rw (← is) leased.2 in one_first e in tells.1 (rw same (leased.3, leased.4)),
)
