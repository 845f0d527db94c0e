-- What a port and a clock over memory did, by what they returned.
use Rattle.std.proofs.Common.{◌≡◌, ℕ, ◌+◌, List, [], ◌∷◌, ◌++◌, length, refl, ap, subst, ◌∙◌, drop, Option, None, Some, Ok, arith}
use Rattle.std.specs.Prelude.{Result, IsOk, OnOk, min, take, Err}
use Rattle.std.proofs.lemmas.List.{take_min}
use Rattle.nbt_port.specs.declared.memory.Datagram.{Datagram}
use Rattle.nbt_port.specs.declared.port.Route.{Route}
use Rattle.nbt_port.specs.PortCalls.{receive_failed, sent, send_failed, receiving, one_more}
use Rattle.nbt_port.specs.Memory.{DatagramValue, MemoryValue, IsToFail, one_later, HandsOut, datagram, nothing, at_end, MemoryDoes, receives, sends, fails_to_receive, fails_to_send, has_no_memory, to, ToldValue, Tells, tells_next, tells_again}

pub told_next : (old : ToldValue) (left rest : List ℕ) (last moment : ℕ) → record { left = left; last = last } ≡ old → left ≡ moment ∷ rest → Tells old moment (record { left = rest; last = moment })
told_next old left rest last moment view is = subst (λ o. Tells o moment (record { left = rest; last = moment })) view (tells_next moment rest is)

pub told_again : (old : ToldValue) (left rest : List ℕ) (last : ℕ) → record { left = left; last = last } ≡ old → left ≡ rest → left ≡ [] → Tells old last (record { left = rest; last = last })
told_again old left rest last view same none = subst (λ xs. Tells old last (record { left = xs; last = last })) same (subst (λ o. Tells o last (record { left = left; last = last })) view (tells_again none))

abbrev pub port_of : List (Option Datagram) → (kept : List DatagramValue) → ℕ → Option ℕ → MemoryValue
port_of incoming kept failures fails_after = record { incoming = incoming; sent = kept; failures = failures; fails_after = fails_after }

pub did_receive : (old : MemoryValue) (incoming rest : List (Option Datagram)) (kept : List DatagramValue) (failures : ℕ) (after then : Option ℕ) (found : Option Route) (octets : List ℕ)
    → port_of incoming kept failures after ≡ old → ¬ IsToFail after → then ≡ one_later after → HandsOut incoming found octets rest → MemoryDoes old (receiving (Ok found) octets) (port_of rest kept failures then)
did_receive old incoming rest kept failures after then found octets view sound later hands =
    rw later (subst (λ o. MemoryDoes o (receiving (Ok found) octets) (port_of rest kept failures (one_later after))) view (receives found octets rest sound hands))

pub did_fail_to_receive : (old : MemoryValue) (incoming : List (Option Datagram)) (kept : List DatagramValue) (failures count : ℕ) (after then : Option ℕ)
    → port_of incoming kept failures after ≡ old → count ≡ one_more failures → IsToFail after → then ≡ None → MemoryDoes old receive_failed (port_of incoming kept count then)
did_fail_to_receive old incoming kept failures count after then view more due none =
    rw (more, none) (subst (λ o. MemoryDoes o receive_failed (port_of incoming kept (one_more failures) None)) view (fails_to_receive due))

pub did_fail_to_send : (old : MemoryValue) (incoming : List (Option Datagram)) (kept : List DatagramValue) (failures count : ℕ) (after then : Option ℕ) (route : Route) (octets : List ℕ)
    → port_of incoming kept failures after ≡ old → count ≡ one_more failures → IsToFail after → then ≡ None → MemoryDoes old (send_failed route octets) (port_of incoming kept count then)
did_fail_to_send old incoming kept failures count after then route octets view more due none =
    rw (more, none) (subst (λ o. MemoryDoes o (send_failed route octets) (port_of incoming kept (one_more failures) None)) view (fails_to_send route octets due))

pub did_not_keep : (old : MemoryValue) (incoming : List (Option Datagram)) (before after_sent : List DatagramValue) (failures count : ℕ) (after then : Option ℕ) (route : Route) (octets : List ℕ)
    → port_of incoming before failures after ≡ old → count ≡ one_more failures → ¬ IsToFail after → then ≡ one_later after → after_sent ≡ before → MemoryDoes old (send_failed route octets) (port_of incoming after_sent count then)
did_not_keep old incoming before after_sent failures count after then route octets view more sound later same =
    rw (more, later, same) (subst (λ o. MemoryDoes o (send_failed route octets) (port_of incoming before (one_more failures) (one_later after))) view (has_no_memory route octets sound))

pub did_send : (old : MemoryValue) (incoming : List (Option Datagram)) (before after_sent : List DatagramValue) (failures : ℕ) (after then : Option ℕ) (route : Route) (octets : List ℕ)
    → port_of incoming before failures after ≡ old → ¬ IsToFail after → then ≡ one_later after → after_sent ≡ before ++ to route octets ∷ [] → MemoryDoes old (sent route octets) (port_of incoming after_sent failures then)
did_send old incoming before after_sent failures after then route octets view sound later more =
    rw (later, more) (subst (λ o. MemoryDoes o (sent route octets) (port_of incoming (before ++ to route octets ∷ []) failures (one_later after))) view (sends route octets sound))

-- a list that loses nothing with its first element has none
pub empty : {A : Type 0} (xs ys : List A) → xs ≡ ys → ys ≡ drop 1 xs → xs ≡ []
empty [] ys same rest = refl
empty (x ∷ xs) ys same rest =
    let e = ap length (same ∙ rest) in
    absurd (omega (arith, e))

pub hands_nothing : (incoming rest : List (Option Datagram)) (octets : List ℕ) → incoming ≡ rest → rest ≡ drop 1 incoming → octets ≡ [] → HandsOut incoming None octets rest
hands_nothing incoming rest octets same less none =
    let e = empty incoming rest same less in
    rw (none, ← same, e) at_end

pub hands_none : (incoming rest : List (Option Datagram)) (octets : List ℕ) (front : Option Datagram) (found : Option Route) → incoming ≡ front ∷ rest → front ≡ None → found ≡ None → octets ≡ [] → HandsOut incoming found octets rest
hands_none incoming rest octets front found is none not_found no_octets = rw (is, none, not_found, no_octets) (nothing rest)

-- what was proved to fit was taken
pub fitted : {E A B : Type 0} (result : Result Unit E) → (A → IsOk result) → A → OnOk result B → B
fitted (Ok done) fits small then = then
fitted (Err failure) fits small then = let e = fits small in absurd cc

take-min_length : (xs : List ℕ) → take (min (length xs) 2048) xs ≡ take 2048 xs
take-min_length xs = let m : min (length xs) 2048 ≡ min 2048 (length xs) = omega arith in rw m (take_min 2048 xs)

-- the octets handed out
pub handed : (incoming rest : List (Option Datagram)) (d : Datagram) (all octets : List ℕ) (most : ℕ) → incoming ≡ Some d ∷ rest → all ≡ d.octets.items → most ≡ min (length all) 2048 → octets ≡ take most all
    → HandsOut incoming (Some d.route) octets rest
handed incoming rest d all octets most is same bound took =
    rw (is, took, bound, same, take-min_length d.octets.items) (datagram d rest)
