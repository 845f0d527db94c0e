-- Which claim octets spell, and which additional record they have, by what a reader returned.
use Rattle.std.proofs.Common.{◌≡◌, ℕ, Bool, Option, Some, None, refl, sym, ap, subst, ◌∙◌, inl, inr, true}
use Rattle.std.specs.Prelude.{◌↔◌, IsTrue, List, Result, Ok, Err, false, not}
use Rattle.nbt_packet.specs.declared.fault.Fault.{Fault}
use Rattle.nbt_packet.specs.declared.message.Message.{Message}
use Rattle.nbt_packet.specs.declared.message.Message.TheVariants as code
use Rattle.nbt_packet.specs.declared.message.Registration.{Registration}
use Rattle.nbt_packet.specs.declared.packet.Packet.{Packet}
use Rattle.nbt_packet.specs.declared.packet.Record.{Record}
use Rattle.nbt_packet.specs.Message.{MessageValue, message_of, refresh, registration}
use Rattle.nbt_packet.specs.Packet.{PacketIs, PacketValue, RecordValue, decoded, packet_of, record_if, record_of}
use Rattle.nbt_packet.specs.Spelling.{Spells}
use Rattle.nbt_packet.specs.Text.{entry}
use Rattle.nbt_confirm.proofs.Claimed.{Reads}
use Rattle.nbt_confirm.proofs.Readings.{none_spelled, one_spelled, spelled_by}
use Rattle.nbt_waits.specs.Looking.{HasAdditional, IsByPNode, IsToBeAsked}

pub some_is : {a b : Registration} → ◌≡◌ {A = Option Registration} (Some a) (Some b) → a ≡ b
some_is e = cc

pub none_some : {A : Type 0} {r : Registration} → ◌≡◌ {A = Option Registration} None (Some r) → A
none_some e = absurd cc

not_registration : (m : Message) → ((r : Registration) → m ≡ code.Registration r → ⊥) → (r : Registration) → message_of m ≡ registration r → ⊥
not_registration (code.Registration s) not r is = not s refl
not_registration m not r is = absurd cc

not_refresh : (m : Message) → ((r : Registration) → m ≡ code.Refresh r → ⊥) → (r : Registration) → message_of m ≡ refresh r → ⊥
not_refresh (code.Refresh s) not r is = not s refl
not_refresh m not r is = absurd cc

same_registration : (a b : Registration) → registration a ≡ registration b → a ≡ b
same_registration a b e = cc

same_refresh : (a b : Registration) → refresh a ≡ refresh b → a ≡ b
same_refresh a b e = cc

module _ (read : Option Message) (octets : List ℕ) (reads : Reads read octets) where
  -- nothing is spelled
  pub no_claim : (found : Option Registration) (make : Registration → MessageValue) → found ≡ None → read ≡ None → (r : Registration) → (found ≡ Some r) ↔ Spells octets (make r)
  no_claim found make none nothing r = (λ e. none_some (sym none ∙ e), λ spelled. absurd (none_spelled read octets reads nothing (make r) spelled))

  module _ (m : Message) (is : read ≡ Some m) where
    pub registration_found : (claim : Registration) → m ≡ code.Registration claim → (r : Registration) → (◌≡◌ {A = Option Registration} (Some claim) (Some r)) ↔ Spells octets (registration r)
    registration_found claim that r = (
      λ e. subst (Spells octets) (ap message_of that ∙ ap registration (some_is e)) (spelled_by read octets m reads is),
      λ spelled. ap Some (same_registration claim r (sym (ap message_of that) ∙ one_spelled read octets m reads is (registration r) spelled)),
    )

    pub registration_not : ((r : Registration) → m ≡ code.Registration r → ⊥) → (r : Registration) → (◌≡◌ {A = Option Registration} None (Some r)) ↔ Spells octets (registration r)
    registration_not not r = (λ e. none_some e, λ spelled. absurd (not_registration m not r (one_spelled read octets m reads is (registration r) spelled)))

    pub refresh_found : (claim : Registration) → m ≡ code.Refresh claim → (r : Registration) → (◌≡◌ {A = Option Registration} (Some claim) (Some r)) ↔ Spells octets (refresh r)
    refresh_found claim that r = (
      λ e. subst (Spells octets) (ap message_of that ∙ ap refresh (some_is e)) (spelled_by read octets m reads is),
      λ spelled. ap Some (same_refresh claim r (sym (ap message_of that) ∙ one_spelled read octets m reads is (refresh r) spelled)),
    )

    pub refresh_not : ((r : Registration) → m ≡ code.Refresh r → ⊥) → (r : Registration) → (◌≡◌ {A = Option Registration} None (Some r)) ↔ Spells octets (refresh r)
    refresh_not not r = (λ e. none_some e, λ spelled. absurd (not_refresh m not r (one_spelled read octets m reads is (refresh r) spelled)))

-- ---- the additional record

ok_is : {a b : PacketValue × ℕ} → ◌≡◌ {A = Result (PacketValue × ℕ) Fault} (Ok a) (Ok b) → a ≡ b
ok_is e = cc

one_packet : (p q : PacketValue) (m n : ℕ) → ◌≡◌ {A = Result (PacketValue × ℕ) Fault} (Ok (p, m)) (Ok (q, n)) → p ≡ q
one_packet p q m n e = ap (λ (read : PacketValue × ℕ). read.0) (ok_is e)

module _ (read : Result (Packet × ℕ) Fault) (octets : List ℕ) (reads : (p : PacketValue) (n : ℕ) → (decoded read ≡ Ok (p, n)) ↔ PacketIs octets p n) where
  pub additional_found : (packet : Packet) (n : ℕ) → read ≡ Ok (packet, n) → (a : RecordValue) → (record_if packet.additional ≡ Some a) ↔ HasAdditional octets a
  additional_found packet n is a = (
    λ e. (packet_of packet, n, (reads (packet_of packet) n).0 (ap decoded is), e),
    λ has. ap (λ (p : PacketValue). p.additional) (one_packet (packet_of packet) has.0 n has.1 (sym (ap decoded is) ∙ (reads has.0 has.1).1 has.2)) ∙ has.3,
  )

  pub no_packet : (fault : Fault) → read ≡ Err fault → (a : RecordValue) → (◌≡◌ {A = Option RecordValue} None (Some a)) ↔ HasAdditional octets a
  no_packet fault is a = (
    λ e. absurd cc,
    λ has. let e : ◌≡◌ {A = Result (PacketValue × ℕ) Fault} (Err fault) (Ok (has.0, has.1)) = sym (ap decoded is) ∙ (reads has.0 has.1).1 has.2 in absurd cc,
  )

one_record : (a b : RecordValue) → ◌≡◌ {A = Option RecordValue} (Some a) (Some b) → a ≡ b
one_record a b e = cc

pub by_entry : (octets : List ℕ) (claim : Registration) (found : Option Record) (r : Record) (answer : Bool) → ((a : RecordValue) → (record_if found ≡ Some a) ↔ HasAdditional octets a) → found ≡ Some r
    → IsTrue answer ↔ (r.rdata.now ≡ entry claim.kind claim.addr) → IsTrue answer ↔ IsByPNode octets claim
by_entry octets claim found r answer has is tells = (
  λ yes. (record_of r, (has (record_of r)).0 (ap record_if is), tells.0 yes),
  λ by. tells.1 (ap (λ (a : RecordValue). a.rdata) (one_record (record_of r) by.0 (sym (ap record_if is) ∙ (has by.0).1 by.1)) ∙ by.2),
)

pub by_nothing : (octets : List ℕ) (claim : Registration) (found : Option Record) → ((a : RecordValue) → (record_if found ≡ Some a) ↔ HasAdditional octets a) → found ≡ None → IsTrue false ↔ IsByPNode octets claim
by_nothing octets claim found has is = (
  λ never. absurd cc,
  λ by. let e : ◌≡◌ {A = Option RecordValue} None (Some by.0) = sym (ap record_if is) ∙ (has by.0).1 by.1 in absurd cc,
)

-- ---- who is asked first

pub none_registered : (octets : List ℕ) (found : Option Registration) → ((r : Registration) → (found ≡ Some r) ↔ Spells octets (registration r)) → found ≡ None → IsTrue false ↔ ((r : Registration) × Spells octets (registration r))
none_registered octets found has is = (λ never. absurd cc, λ some. none_some (sym is ∙ (has some.0).1 some.1))

module _ (ip : ℕ) (octets : List ℕ) (found : Option Registration) (has : (r : Registration) → (found ≡ Some r) ↔ Spells octets (refresh r)) where
  pub none_to_ask : found ≡ None → IsTrue false ↔ ((r : Registration) × Spells octets (refresh r) × IsToBeAsked ip octets r)
  none_to_ask is = (λ never. absurd cc, λ some. none_some (sym is ∙ (has some.0).1 some.1))

  by_kind : (claim r : Registration) → claim ≡ r → claim.addr ≡ ip → (by : Bool) → IsTrue by ↔ IsByPNode octets claim → IsToBeAsked ip octets r → IsTrue (not by)
  by_kind claim r same own by tells (inl other) = absurd (other (ap (λ (c : Registration). c.addr) (sym same) ∙ own))
  by_kind claim r same own true tells (inr none) = absurd (none (subst (IsByPNode octets) same (tells.0 refl)))
  by_kind claim r same own false tells (inr none) = refl

  pub one_to_ask : (claim : Registration) → found ≡ Some claim → claim.addr ≡ ip → (by : Bool) → IsTrue by ↔ IsByPNode octets claim → IsTrue (not by) ↔ ((r : Registration) × Spells octets (refresh r) × IsToBeAsked ip octets r)
  one_to_ask claim is own by tells = (
    λ other. (claim, (has claim).0 is, inr (λ is_p. let yes = tells.1 is_p in absurd cc)),
    λ some. by_kind claim some.0 (some_is (sym is ∙ (has some.0).1 some.1)) own by tells some.2,
  )
