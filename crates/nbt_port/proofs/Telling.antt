-- What the calls of a port over memory come to.
use Rattle.std.proofs.Common.{◌≡◌, ◌≤◌, ℕ, ◌+◌, List, [], ◌∷◌, ◌++◌, take, drop, refl, sym, ◌∙◌, Option, None, Some, Ok, arith, append_assoc, drop-drop, take-add}
use Rattle.std.specs.Prelude.{min}
use Rattle.std.proofs.lemmas.List.{append-nil}
use Rattle.nbt_port.specs.Numbers.{count_most}
use Rattle.nbt_port.specs.declared.memory.Datagram.{Datagram}
use Rattle.nbt_port.specs.declared.port.Route.{Route}
use Rattle.nbt_port.specs.PortCalls.{PortCall, nothing_came, came, receive_failed, sent, send_failed, receiving, Chain}
use Rattle.nbt_port.specs.Memory.{MemoryValue, HandsOut, datagram, nothing, at_end, MemoryDoes, receives, sends, fails_to_receive, fails_to_send, has_no_memory, sent_in, came_in, datagrams_in, received_in, failed_in}

-- what one call comes to
pub record Comes (old : MemoryValue) (act : PortCall) (new : MemoryValue) : Type 0 where
  pub sent_is : new.sent ≡ old.sent ++ sent_in (act ∷ [])
  pub came_is : came_in (act ∷ []) ≡ datagrams_in (take (received_in (act ∷ [])) old.incoming)
  pub incoming_is : new.incoming ≡ drop (received_in (act ∷ [])) old.incoming
  pub failures_are : old.failures ≤ count_most → new.failures ≡ min (old.failures + failed_in (act ∷ [])) count_most

handed : (old : MemoryValue) (found : Option Route) (octets : List ℕ) (rest : List (Option Datagram)) (after : Option ℕ) → HandsOut old.incoming found octets rest
    → Comes old (receiving (Ok found) octets) (record old { incoming = rest; fails_after = after })
handed old found octets rest after hands = go old.incoming found octets rest refl hands
  where
    go : (incoming : List (Option Datagram)) (found : Option Route) (octets : List ℕ) (rest : List (Option Datagram)) → old.incoming ≡ incoming → HandsOut incoming found octets rest
        → Comes old (receiving (Ok found) octets) (record old { incoming = rest; fails_after = after })
    go incoming found octets rest is (datagram d r) = record { sent_is = sym (append-nil old.sent); came_is = rw is refl; incoming_is = rw is refl; failures_are = λ few. omega (arith, few) }
    go incoming found octets rest is (nothing r) = record { sent_is = sym (append-nil old.sent); came_is = rw is refl; incoming_is = rw is refl; failures_are = λ few. omega (arith, few) }
    go incoming found octets rest is at_end = record { sent_is = sym (append-nil old.sent); came_is = rw is refl; incoming_is = rw is refl; failures_are = λ few. omega (arith, few) }

pub comes : (old : MemoryValue) (act : PortCall) (new : MemoryValue) → MemoryDoes old act new → Comes old act new
comes old act new (receives found octets rest sound hands) = handed old found octets rest _ hands
comes old act new (sends route octets sound) = record { sent_is = refl; came_is = refl; incoming_is = refl; failures_are = λ few. omega (arith, few) }
comes old act new (fails_to_receive due) = record { sent_is = sym (append-nil old.sent); came_is = refl; incoming_is = refl; failures_are = λ few. omega (arith, few) }
comes old act new (fails_to_send route octets due) = record { sent_is = sym (append-nil old.sent); came_is = refl; incoming_is = refl; failures_are = λ few. omega (arith, few) }
comes old act new (has_no_memory route octets sound) = record { sent_is = sym (append-nil old.sent); came_is = refl; incoming_is = refl; failures_are = λ few. omega (arith, few) }

sent_in-cons : (act : PortCall) (acts : List PortCall) → sent_in (act ∷ acts) ≡ sent_in (act ∷ []) ++ sent_in acts
sent_in-cons nothing_came acts = refl
sent_in-cons (came from octets) acts = refl
sent_in-cons receive_failed acts = refl
sent_in-cons (sent route octets) acts = refl
sent_in-cons (send_failed route octets) acts = refl

came_in-cons : (act : PortCall) (acts : List PortCall) → came_in (act ∷ acts) ≡ came_in (act ∷ []) ++ came_in acts
came_in-cons nothing_came acts = refl
came_in-cons (came from octets) acts = refl
came_in-cons receive_failed acts = refl
came_in-cons (sent route octets) acts = refl
came_in-cons (send_failed route octets) acts = refl

datagrams_in-append : (xs ys : List (Option Datagram)) → datagrams_in (xs ++ ys) ≡ datagrams_in xs ++ datagrams_in ys
datagrams_in-append [] ys = refl
datagrams_in-append (None ∷ xs) ys = datagrams_in-append xs ys
datagrams_in-append (Some d ∷ xs) ys = rw (datagrams_in-append xs ys) refl

received_in-cons : (act : PortCall) (acts : List PortCall) → received_in (act ∷ acts) ≡ received_in (act ∷ []) + received_in acts
received_in-cons nothing_came acts = omega arith
received_in-cons (came from octets) acts = omega arith
received_in-cons receive_failed acts = omega arith
received_in-cons (sent route octets) acts = omega arith
received_in-cons (send_failed route octets) acts = omega arith

failed_in-cons : (act : PortCall) (acts : List PortCall) → failed_in (act ∷ acts) ≡ failed_in (act ∷ []) + failed_in acts
failed_in-cons nothing_came acts = omega arith
failed_in-cons (came from octets) acts = omega arith
failed_in-cons receive_failed acts = omega arith
failed_in-cons (sent route octets) acts = omega arith
failed_in-cons (send_failed route octets) acts = omega arith

-- what came in one call, and in those after it
came_on : (act : PortCall) (acts : List PortCall) (incoming rest : List (Option Datagram)) → came_in (act ∷ []) ≡ datagrams_in (take (received_in (act ∷ [])) incoming)
    → rest ≡ drop (received_in (act ∷ [])) incoming → came_in acts ≡ datagrams_in (take (received_in acts) rest) → came_in (act ∷ acts) ≡ datagrams_in (take (received_in (act ∷ acts)) incoming)
came_on act acts incoming rest one left more =
    let n = received_in (act ∷ []) in
    let m = received_in acts in
    rw (came_in-cons act acts, one, more, left, received_in-cons act acts, take-add n m incoming) (sym (datagrams_in-append (take n incoming) (take m (drop n incoming))))

pub tells_all : (acts : List PortCall) (old new : MemoryValue) → Chain MemoryDoes old acts new
    → (new.sent ≡ old.sent ++ sent_in acts) × (came_in acts ≡ datagrams_in (take (received_in acts) old.incoming))
    × (new.incoming ≡ drop (received_in acts) old.incoming) × (old.failures ≤ count_most → new.failures ≡ min (old.failures + failed_in acts) count_most)
tells_all [] old new chain = rw chain (sym (append-nil old.sent), refl, refl, λ few. omega (arith, few))
tells_all (act ∷ acts) old new chain =
    let one = comes old act chain.0 chain.1 in
    let rest = tells_all acts chain.0 new chain.2 in
    let f = failed_in-cons act acts in (
      rest.0 ∙ rw (one.sent_is, sent_in-cons act acts, append_assoc) refl,
      came_on act acts old.incoming chain.0.incoming one.came_is one.incoming_is rest.1,
      rest.2 ∙ rw (one.incoming_is, received_in-cons act acts) (drop-drop (received_in acts) (received_in (act ∷ [])) old.incoming),
      λ few.
          let first = one.failures_are few in
          let mid : chain.0.failures ≤ count_most = omega (arith, few, first) in
          let then = rest.3 mid in
          omega (arith, f, few, first, then),
    )
