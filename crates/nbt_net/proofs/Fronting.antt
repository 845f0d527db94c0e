-- What comes to a server behind a front may come there, and what a front sends moves no name, but for the confirmation of a fixed one.
use Rattle.std.proofs.Common.{◌≡◌, ◌≢◌, ◌≤◌, ◌⊎◌, ℕ, ◌<◌, List, [], ◌∷◌, ◌++◌, Contains, refl, sym, ap, subst, ◌∙◌, arith, inl, inr}
use Rattle.std.specs.List.{AllByRecursion}
use Rattle.std.proofs.lemmas.List.Elements.{Contains-append_cases, Contains-append_left, Contains-append_right}
use Rattle.nbt_name.specs.declared.addr.Addr.{Addr}
use Rattle.nbt_name.specs.Words.{word_at}
use Rattle.nbt_packet.specs.declared.message.Registration.{Registration}
use Rattle.nbt_packet.specs.Message.{MessageValue, opcode_of, rcode_of, registration, overwrite, refresh, release, registered}
use Rattle.nbt_packet.specs.Text.{text}
use Rattle.nbt_port.specs.declared.port.Route.{Route}
use Rattle.nbt_port.specs.PortCalls.{PortCall, nothing_came, came, receive_failed, sent, send_failed, Chain}
use Rattle.nbt_port.proofs.Chains.{chain-append}
use Rattle.nbt_lease.specs.Config.{granted}
use Rattle.nbt_front.specs.Deciding.{FrontValue, DeskValue, IsHolder, Decides, confirms as confirms_claim, refuses, refuses_overwrite, confirms_release, refuses_release, finds, refuses_past, turns_away}
use Rattle.nbt_front.specs.FrontPort.{Fronted, FrontDoes, hands_on, answers, can_not_answer}
use Rattle.nbt_front.specs.declared.deciding.Decision.{Decision}
use Rattle.nbt_serve.specs.Samba.{as_registration, IsTaken}
use Rattle.nbt_serve.specs.SambaPort.{Becomes, taken, unchanged}
use Rattle.nbt_world.specs.declared.clocks.Clocks.{Clocks}
use Rattle.nbt_world.specs.declared.network.Datagram.{Datagram}
use Rattle.nbt_world.specs.World.{WorldValue, datagram}
use Rattle.nbt_world.specs.Step.{SpellMove}
use Rattle.nbt_net.specs.Wire.{of_no_end, MayCome, sent_by}
use Rattle.nbt_net.specs.Fronts.{MayComeBeneath, IsFronts, moves_none, confirms, AreThrough}
use Rattle.nbt_net.proofs.Ends.{nothing_at, one_sent}

-- ---- by their flags

-- a request has R clear
no_request : {n w : ℕ} → n ≡ w → 0x8000 ≤ w → n < 0x8000 → ⊥
no_request is high below = omega (arith, is, high, below)

-- no registration's positive reply has these flags
abbrev IsNoGrant : (flags : ℕ) → Type 0
IsNoGrant flags = (opcode : ℕ) → (opcode ≡ 5) ⊎ ((opcode ≡ 8) ⊎ (opcode ≡ 9)) → opcode_of flags ≡ opcode → rcode_of flags ≡ 0 → ⊥

moves_not : (octets : List ℕ) (w : ℕ) → word_at octets 2 ≡ w → 0x8000 ≤ w → IsNoGrant w → SpellMove octets → ⊥
moves_not octets w is high none (registration r, s, moves) = no_request (s.packet_is.flags ∙ is) high s.message_is.0.request
moves_not octets w is high none (overwrite r, s, moves) = no_request (s.packet_is.flags ∙ is) high s.message_is.0.request
moves_not octets w is high none (refresh r, s, moves) = elim s.message_is.0 [ inl requests ↦ no_request (s.packet_is.flags ∙ is) high requests.request | inr requests ↦ no_request (s.packet_is.flags ∙ is) high requests.request ]
moves_not octets w is high none (release id name kind addr, s, moves) = no_request (s.packet_is.flags ∙ is) high s.message_is.0.request
moves_not octets w is high none (registered rcode r, s, moves) =
    let flags = s.packet_is.flags ∙ is in
    let positive : rcode_of w ≡ 0 = sym (ap rcode_of flags) ∙ (sym s.message_is.2 ∙ moves) in
    elim s.message_is.0 [
      | inl responds ↦ none 5 (inl refl) (sym (ap opcode_of flags) ∙ responds.opcode_is) positive
      | inr more ↦ elim more [ inl responds ↦ none 8 (inr (inl refl)) (sym (ap opcode_of flags) ∙ responds.opcode_is) positive | inr responds ↦ none 9 (inr (inr refl)) (sym (ap opcode_of flags) ∙ responds.opcode_is) positive ]
    ]
moves_not octets w is high none (message, s, moves) = absurd moves

negative : (w n : ℕ) → rcode_of w ≡ n → n ≢ 0 → IsNoGrant w
negative w n is some opcode which same positive = some (sym is ∙ positive)

other_opcode : (w n : ℕ) → opcode_of w ≡ n → n ≢ 5 → n ≢ 8 → n ≢ 9 → IsNoGrant w
other_opcode w n is five eight nine opcode which same positive = elim which [
  | inl e ↦ five (sym is ∙ (same ∙ e))
  | inr more ↦ elim more [ inl e ↦ eight (sym is ∙ (same ∙ e)) | inr e ↦ nine (sym is ∙ (same ∙ e)) ]
]

-- ---- what a front replies

replies : (desk : DeskValue) (now ip : ℕ) (m : MessageValue) (decision : Decision) (reply : MessageValue) → Decides desk now ip m decision reply → (d : Datagram) → d.octets.items ≡ text reply → d.to.ip ≡ ip → IsFronts desk.front d
replies desk now ip m _ _ (confirms_claim _ r fixed asks is may) d octets to = confirms (record r { ttl = granted desk.front.longest r.ttl }) fixed octets is (subst (λ (to : ℕ). IsHolder to r.kind r.addr fixed) (sym to) may.holds)
replies desk now ip m _ _ (refuses _ r fixed asks is may_not) d octets to = moves_none (λ moves. moves_not d.octets.items 0xAD86 (ap (λ (xs : List ℕ). word_at xs 2) octets) (omega arith) (negative 0xAD86 6 refl (λ e. absurd cc)) moves)
replies desk now ip _ _ _ (refuses_overwrite r fixed is) d octets to = moves_none (λ moves. moves_not d.octets.items 0xAD86 (ap (λ (xs : List ℕ). word_at xs 2) octets) (omega arith) (negative 0xAD86 6 refl (λ e. absurd cc)) moves)
replies desk now ip _ _ _ (confirms_release id name kind addr fixed is free holds) d octets to =
    moves_none (λ moves. moves_not d.octets.items 0xB400 (ap (λ (xs : List ℕ). word_at xs 2) octets) (omega arith) (other_opcode 0xB400 6 refl (λ e. absurd cc) (λ e. absurd cc) (λ e. absurd cc)) moves)
replies desk now ip _ _ _ (refuses_release id name kind addr fixed is free holds) d octets to =
    moves_none (λ moves. moves_not d.octets.items 0xB406 (ap (λ (xs : List ℕ). word_at xs 2) octets) (omega arith) (other_opcode 0xB406 6 refl (λ e. absurd cc) (λ e. absurd cc) (λ e. absurd cc)) moves)
replies desk now ip _ _ _ (finds id name fixed is free) d octets to =
    moves_none (λ moves. moves_not d.octets.items 0x8580 (ap (λ (xs : List ℕ). word_at xs 2) octets) (omega arith) (other_opcode 0x8580 0 refl (λ e. absurd cc) (λ e. absurd cc) (λ e. absurd cc)) moves)
replies desk now ip m _ _ (refuses_past _ r claims none allowed is_taken) d octets to = moves_none (λ moves. moves_not d.octets.items 0xAD86 (ap (λ (xs : List ℕ). word_at xs 2) octets) (omega arith) (negative 0xAD86 6 refl (λ e. absurd cc)) moves)
replies desk now ip m _ _ (turns_away _ r claims none not_allowed) d octets to = moves_none (λ moves. moves_not d.octets.items 0xAD85 (ap (λ (xs : List ℕ). word_at xs 2) octets) (omega arith) (negative 0xAD85 5 refl (λ e. absurd cc)) moves)

-- ---- what becomes of a call

-- a call is that of the port beneath, or a registration that is taken
pub data Passes : PortCall → PortCall → Type 0 where
  as_it_is : (call : PortCall) → Passes call call
  as_taken : (from : Route) (octets : List ℕ) (r : Registration) → IsTaken octets r → Passes (came from octets) (came from (as_registration octets))

pub passes_so : {beneath call : PortCall} → Becomes beneath call → Passes beneath call
passes_so (taken from octets r is) = as_taken from octets r is
passes_so (unchanged call other) = as_it_is call

becomes_may_come : (wire : WorldValue) (at : Addr) {beneath call : PortCall} → Passes beneath call → MayComeBeneath wire at beneath → MayCome wire at call
becomes_may_come wire at (as_taken from octets r is) may = of_no_end (λ of_end. may.1 of_end r is)
becomes_may_come wire at (as_it_is (came from octets)) may = may.0
becomes_may_come wire at (as_it_is nothing_came) may = tt
becomes_may_come wire at (as_it_is receive_failed) may = tt
becomes_may_come wire at (as_it_is (sent to octets)) may = tt
becomes_may_come wire at (as_it_is (send_failed to octets)) may = tt

becomes_sent : (at : Addr) (moment : Clocks) {beneath call : PortCall} → Passes beneath call → sent_by at moment (beneath ∷ []) ≡ sent_by at moment (call ∷ [])
becomes_sent at moment (as_taken from octets r is) = refl
becomes_sent at moment (as_it_is call) = refl

-- ---- what is sent by both

sent-append : (at : Addr) (moment : Clocks) (xs ys : List PortCall) → sent_by at moment (xs ++ ys) ≡ sent_by at moment xs ++ sent_by at moment ys
sent-append at moment [] ys = refl
sent-append at moment (sent to octets ∷ xs) ys = ap (λ (rest : List Datagram). datagram at to.peer moment octets ∷ rest) (sent-append at moment xs ys)
sent-append at moment (send_failed to octets ∷ xs) ys = ap (λ (rest : List Datagram). datagram at to.peer moment octets ∷ rest) (sent-append at moment xs ys)
sent-append at moment (nothing_came ∷ xs) ys = sent-append at moment xs ys
sent-append at moment (came from octets ∷ xs) ys = sent-append at moment xs ys
sent-append at moment (receive_failed ∷ xs) ys = sent-append at moment xs ys

-- ---- a port beneath, of which each call becomes one

module _ {P : Type 0} (does : P → PortCall → P → Type 0) (beneath : P → PortCall → P → Type 0) (becomes : (old new : P) (call : PortCall) → beneath old call new → (own : PortCall) × does old own new × Passes own call) where
  -- the front's own reply
  replied : (old : Fronted P) (now : ℕ) (from : Route) (octets : List ℕ) (decision : Decision) (reply : MessageValue) (m : MessageValue) → Decides old.desk now from.peer.ip m decision reply → (said call : PortCall) (mid new : P)
      → beneath old.port (came from octets) mid → beneath mid said new → ((at : Addr) (moment : Clocks) → sent_by at moment (said ∷ []) ≡ datagram at from.peer moment (text reply) ∷ []) → ((wire : WorldValue) (at : Addr) → MayCome wire at call)
      → AreThrough does old (call ∷ []) (record { port = new; desk = old.desk })
  replied old now from octets decision reply m decides said call mid new first second sends may =
      let a = becomes old.port mid (came from octets) first in
      let b = becomes mid new said second in
      record {
        below = a.0 ∷ b.0 ∷ [];
        did = (mid, a.1, (new, b.1, refl));
        comes = λ wire at all. (may wire at, tt);
        sends = λ at moment d there. inr (by at moment a.0 b.0 a.2 b.2 d there);
        front = refl;
      }
    where
      by : (at : Addr) (moment : Clocks) (x y : PortCall) → Passes x (came from octets) → Passes y said → (d : Datagram) → Contains (sent_by at moment (x ∷ y ∷ [])) d → IsFronts old.desk.front d
      by at moment x y first second d there =
          let all = sent-append at moment (x ∷ []) (y ∷ []) in
          let none = becomes_sent at moment first in
          let one = becomes_sent at moment second ∙ sends at moment in
          one_sent (IsFronts old.desk.front) (datagram at from.peer moment (text reply)) (replies old.desk now from.peer.ip m decision reply decides (datagram at from.peer moment (text reply)) refl refl) d
          (subst (λ (ds : List Datagram). Contains ds d) (all ∙ (λ j. none j ++ one j)) there)

  once : (old : Fronted P) (call : PortCall) (new : Fronted P) → FrontDoes beneath old call new → AreThrough does old (call ∷ []) new
  once old call _ (hands_on now _ port kept did other leaves) =
      let a = becomes old.port port call did in
      record {
        below = a.0 ∷ [];
        did = (port, a.1, refl);
        comes = λ wire at all. (becomes_may_come wire at a.2 all.0, tt);
        sends = λ at moment d there. inl (subst (λ (ds : List Datagram). Contains ds d) (becomes_sent at moment a.2) there);
        front = refl;
      }
  once old _ _ (answers now from octets decision reply mid port decides first second) =
      replied old now from octets decision reply decides.0 decides.2 (sent from (text reply)) nothing_came mid port first second (λ at moment. refl) (λ wire at. tt)
  once old _ _ (can_not_answer now from octets decision reply mid port decides first second) =
      replied old now from octets decision reply decides.0 decides.2 (send_failed from (text reply)) receive_failed mid port first second (λ at moment. refl) (λ wire at. tt)

  both_come : (wire : WorldValue) (at : Addr) (xs ys : List PortCall) → AllByRecursion (MayComeBeneath wire at) (xs ++ ys) → AllByRecursion (MayComeBeneath wire at) xs × AllByRecursion (MayComeBeneath wire at) ys
  both_come wire at [] ys all = (tt, all)
  both_come wire at (x ∷ xs) ys all = let rest = both_come wire at xs ys all.1 in ((all.0, rest.0), rest.1)

  pub through : (calls : List PortCall) (old new : Fronted P) → Chain (FrontDoes beneath) old calls new → AreThrough does old calls new
  through [] old new chain = record {
    below = [];
    did = ap (λ (f : Fronted P). f.port) chain;
    comes = λ wire at all. tt;
    sends = λ at moment d there. absurd (nothing_at d there);
    front = ap (λ (f : Fronted P). f.desk.front) chain;
  }
  through (call ∷ calls) old new chain =
      let first = once old call chain.0 chain.1 in
      let rest = through calls chain.0 new chain.2 in
      record {
        below = first.below ++ rest.below;
        did = chain-append does old.port chain.0.port new.port first.below rest.below first.did rest.did;
        comes = λ wire at all. let parts = both_come wire at first.below rest.below all in ((first.comes wire at parts.0).0, rest.comes wire at parts.1);
        sends = λ at moment d there. elim (Contains-append_cases (sent_by at moment first.below) (sent_by at moment rest.below) d (subst (λ (ds : List Datagram). Contains ds d) (sent-append at moment first.below rest.below) there)) [
          | inl early ↦ elim (first.sends at moment d early) [
            | inl own ↦ inl (subst (λ (ds : List Datagram). Contains ds d) (sym (sent-append at moment (call ∷ []) calls)) (Contains-append_left (sent_by at moment (call ∷ [])) (sent_by at moment calls) d own))
            | inr fronts ↦ inr fronts
          ]
          | inr late ↦ elim (rest.sends at moment d late) [
            | inl own ↦ inl (subst (λ (ds : List Datagram). Contains ds d) (sym (sent-append at moment (call ∷ []) calls)) (Contains-append_right (sent_by at moment (call ∷ [])) (sent_by at moment calls) d own))
            | inr fronts ↦ inr (subst (λ (front : FrontValue). IsFronts front d) first.front fronts)
          ]
        ];
        front = rest.front ∙ first.front;
      }
