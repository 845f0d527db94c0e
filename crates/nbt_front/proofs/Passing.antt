-- What becomes of a receive beneath a front.
use Rattle.std.proofs.Common.{◌≡◌, ℕ, List, Option, Some, None, Result, Ok, Err, refl, sym, subst}
use Rattle.nbt_name.specs.Wire.{NameValue}
use Rattle.nbt_lease.specs.Lease.{Rows}
use Rattle.nbt_packet.specs.Message.{MessageValue}
use Rattle.nbt_packet.specs.Spelling.{Spells, AreWritten}
use Rattle.nbt_port.specs.declared.port.Route.{Route}
use Rattle.nbt_port.specs.PortCalls.{PortCall, nothing_came, came, receive_failed, sent, send_failed, receiving, sending}
use Rattle.nbt_port.specs.declared.port.Device.{Device}
use Rattle.nbt_front.specs.Deciding.{DeskValue, FrontValue, desk_of, Decides, Passes}
use Rattle.nbt_front.specs.FrontPort.{Fronted, IsOther, FrontDoes, hands_on, answers, can_not_answer}
use Rattle.nbt_front.specs.Standing.{ReleasesOwn, Leaves, leaves_all}
use Rattle.nbt_front.specs.declared.deciding.Decision.{Decision}

same_from : {a b : Route} {x y : List ℕ} → came a x ≡ came b y → a ≡ b
same_from e = cc

same_octets : {a b : Route} {x y : List ℕ} → came a x ≡ came b y → x ≡ y
same_octets e = cc

-- a port and the front at work before it
abbrev pub with_desk : {P : Type 0} → DeskValue → P → Fronted P
with_desk desk port = record { port = port; desk = desk }

-- what is left of a desk's leases, behind the same front
pub same_desk : (new desk : DeskValue) → new.front ≡ desk.front → new.past ≡ desk.past → desk_of desk.front new.kept desk.past ≡ new
same_desk new desk f p = rw (← f, ← p) refl

-- ---- what is no datagram

pub not_received : (desk : DeskValue) (now : ℕ) (failure : Device) (octets : List ℕ) → IsOther desk now (receiving (Err failure) octets)
not_received desk now failure octets = λ from others d r e decides. absurd cc

pub failed_leaves : (kept : Rows) (failure : Device) (octets : List ℕ) → Leaves kept (receiving (Err failure) octets) kept
failed_leaves kept failure octets = leaves_all (receiving (Err failure) octets) (λ own. let e = own.3 in cc)

-- a send is no datagram that came
pub sent_is_other : {A : Type 0} (desk : DeskValue) (now : ℕ) (to : Route) (octets : List ℕ) (result : Result A Device) → IsOther desk now (sending to octets result)
sent_is_other desk now to octets (Ok done) = λ from others d r e decides. absurd cc
sent_is_other desk now to octets (Err failure) = λ from others d r e decides. absurd cc

pub sent_leaves : {A : Type 0} (kept : Rows) (to : Route) (octets : List ℕ) (result : Result A Device) → Leaves kept (sending to octets result) kept
sent_leaves kept to octets (Ok done) = leaves_all (sent to octets) (λ own. let e = own.3 in cc)
sent_leaves kept to octets (Err failure) = leaves_all (send_failed to octets) (λ own. let e = own.3 in cc)

-- ---- a datagram that is handed on

-- octets that release no name of their sender's
pub came_leaves : (kept : Rows) (from : Route) (octets : List ℕ) → ((name : NameValue) → ¬ ReleasesOwn from.peer.ip octets name) → Leaves kept (came from octets) kept
came_leaves kept from octets none = leaves_all (came from octets) (λ own. none own.2
    (subst (λ (xs : List ℕ). ReleasesOwn from.peer.ip xs own.2) (sym (same_octets own.3)) (subst (λ (a : Route). ReleasesOwn a.peer.ip own.1 own.2) (sym (same_from own.3)) own.4)))

module _ {P : Type 0} (does : P → PortCall → P → Type 0) (desk : DeskValue) (before mid : P) (found : Option Route) (octets : List ℕ) where
  pub hands_nothing : found ≡ None → does before (receiving (Ok found) octets) mid → FrontDoes does (with_desk desk before) nothing_came (with_desk desk mid)
  hands_nothing none did = hands_on 0 nothing_came mid desk.kept (subst (λ o. does before (receiving (Ok o) octets) mid) none did) (λ from others d r e decides. absurd cc) (leaves_all nothing_came (λ own. let e = own.3 in cc))

  module _ (now : ℕ) (route : Route) (some : found ≡ Some route) (did : does before (receiving (Ok found) octets) mid) where
    came_so : does before (came route octets) mid
    came_so = subst (λ o. does before (receiving (Ok o) octets) mid) some did

    pub hands_other : (new : DeskValue) → new.front ≡ desk.front → new.past ≡ desk.past → ((m : MessageValue) → Spells octets m → Passes desk now route.peer.ip m) → Leaves desk.kept (came route octets) new.kept
        → FrontDoes does (with_desk desk before) (came route octets) (with_desk new mid)
    hands_other new front past passes leaves = subst (λ (d : DeskValue). FrontDoes does (with_desk desk before) (came route octets) (with_desk d mid)) (same_desk new desk front past)
        (hands_on now (came route octets) mid new.kept came_so (λ from others d r e decides.
        passes decides.0 (subst (λ (xs : List ℕ). Spells xs decides.0) (sym (same_octets e)) decides.1) d r (subst (λ (a : Route). Decides desk now a.peer.ip decides.0 d r) (sym (same_from e)) decides.2)) leaves)

    module _ (d : Decision) (m r : MessageValue) (out : List ℕ) (port : P) (spells : Spells octets m) (decides : Decides desk now route.peer.ip m d r) (written : AreWritten (Some r) out) where
      pub is_answered : does mid (sent route out) port → FrontDoes does (with_desk desk before) nothing_came (with_desk desk port)
      is_answered sends = answers now route octets d r mid port (m, spells, decides) came_so (subst (λ (xs : List ℕ). does mid (sent route xs) port) written.0 sends)

      pub is_not_answered : does mid (send_failed route out) port → FrontDoes does (with_desk desk before) receive_failed (with_desk desk port)
      is_not_answered fails = can_not_answer now route octets d r mid port (m, spells, decides) came_so (subst (λ (xs : List ℕ). does mid (send_failed route xs) port) written.0 fails)
