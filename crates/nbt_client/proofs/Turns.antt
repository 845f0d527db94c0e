-- A turn of a node, from its parts.
use Rattle.std.proofs.Common.{◌≡◌, ℕ, List, [], ◌∷◌, ◌++◌, refl, subst, Option, None, Some, Ok, Err}
use Rattle.std.specs.Prelude.{Result, IfOk, OnErr}
use Rattle.nbt_name.specs.declared.addr.Addr.{Addr}
use Rattle.nbt_node.specs.Node.{NodeValue}
use Rattle.nbt_node.specs.Moves.{replied}
use Rattle.nbt_node.specs.Datagrams.{Handles}
use Rattle.nbt_port.specs.declared.port.Device.{Device}
use Rattle.nbt_port.specs.declared.port.Route.{Route}
use Rattle.nbt_client.specs.declared.turning.Seen.{Seen}
use Rattle.nbt_client.specs.declared.turning.Seen.TheVariants as s
use Rattle.nbt_client.specs.declared.turning.Want.{Want}
use Rattle.nbt_port.specs.PortCalls.{PortCall, nothing_came, came, receive_failed, send_failed, receiving, route_to, Chain}
use Rattle.nbt_client.specs.Turning.{AsksFor, Asks, PollsAll, BreaksPolls, TurnHears, hears_nothing, TakesTurn, BreaksTurn, at_ask, at_poll, at_receive, at_reply}
use Rattle.nbt_port.proofs.Chains.{chain_one, chain-append}

module _ {P C : Type 0} (does : P → PortCall → P → Type 0) (tells : C → ℕ → C → Type 0) (server : Addr) (want : Want) (old : NodeValue) (p : P) (c : C) where
  abbrev Taken : Seen → P → C → NodeValue → Type 0
  Taken seen q d new = (acts : List PortCall) × (moments : List ℕ) × TakesTurn server want old acts moments seen new × Chain does p acts q × Chain tells c moments d

  abbrev Broken : P → C → NodeValue → Type 0
  Broken q d new = (acts : List PortCall) × (moments : List ℕ) × BreaksTurn server want old acts moments new × Chain does p acts q × Chain tells c moments d

  -- the ask is done
  abbrev Asked : (now : ℕ) → P → NodeValue → Type 0
  Asked now q asked = (acts : List PortCall) × Asks server now want old acts asked × Chain does p acts q

  -- the polls are done
  abbrev Polled : (now : ℕ) → P → NodeValue → P → NodeValue → Type 0
  Polled now q asked r polled = (acts : List PortCall) × PollsAll now asked acts polled × Chain does q acts r

  pub broken_at_ask : (now : ℕ) (q : P) (d : C) (new : NodeValue) → ((octets : List ℕ) × AsksFor now want old octets new × does p (send_failed (route_to server) octets) q) → tells c now d → Broken q d new
  broken_at_ask now q d new e told = (send_failed (route_to server) e.0 ∷ [], now ∷ [], at_ask now e.0 new e.1, chain_one does p (send_failed (route_to server) e.0) q e.2, chain_one tells c now d told)

  pub broken_at_poll : (now : ℕ) (q r : P) (d : C) (asked new : NodeValue) → Asked now q asked
      → ((acts : List PortCall) × BreaksPolls now asked acts new × Chain does q acts r) → tells c now d → Broken r d new
  broken_at_poll now q r d asked new a e told =
      (a.0 ++ e.0, now ∷ [], at_poll now a.0 e.0 asked new a.1 e.1, chain-append does p q r a.0 e.0 a.2 e.2, chain_one tells c now d told)

  -- both are done, and what follows is in order after them
  behind : (now : ℕ) (q r t : P) (asked polled : NodeValue) (a : Asked now q asked) (b : Polled now q asked r polled) (acts : List PortCall) → Chain does r acts t → Chain does p (a.0 ++ (b.0 ++ acts)) t
  behind now q r t asked polled a b acts did = chain-append does p q t a.0 (b.0 ++ acts) a.2 (chain-append does q r t b.0 acts b.2 did)

  pub broken_at_receive : (now : ℕ) (q r t : P) (d : C) (asked new : NodeValue) → Asked now q asked → Polled now q asked r new → does r receive_failed t → tells c now d → Broken t d new
  broken_at_receive now q r t d asked new a b did told = (
    a.0 ++ (b.0 ++ receive_failed ∷ []),
    now ∷ [],
    at_receive now a.0 b.0 asked new a.1 b.1,
    behind now q r t asked new a b (receive_failed ∷ []) (chain_one does r receive_failed t did),
    chain_one tells c now d told,
  )

  turned : (now later : ℕ) (q r t : P) (d e : C) (asked polled new : NodeValue) (seen : Seen) → Asked now q asked → Polled now q asked r polled → tells c now d → tells d later e
      → (acts : List PortCall) → TurnHears later polled acts seen new → Chain does r acts t → Taken seen t e new
  turned now later q r t d e asked polled new seen a b told told_later acts does_hear did = (
    a.0 ++ (b.0 ++ acts),
    now ∷ later ∷ [],
    record {
      first = now;
      second = later;
      asking = a.0;
      polling = b.0;
      hearing = acts;
      asked = asked;
      polled = polled;
      asks = a.1;
      polls = b.1;
      hears = does_hear;
      acts_are = refl;
      moments_are = refl;
    },
    behind now q r t asked polled a b acts did,
    (d, told, (e, told_later, refl)),
  )

  pub turned_empty : (now later : ℕ) (q r t : P) (d e : C) (asked new : NodeValue) (found : Option Route) (octets : List ℕ) → Asked now q asked → Polled now q asked r new → tells c now d → tells d later e
      → found ≡ None → does r (receiving (Ok found) octets) t → Taken s.Nothing t e new
  turned_empty now later q r t d e asked new found octets a b told told_later none did =
      turned now later q r t d e asked new new s.Nothing a b told told_later (nothing_came ∷ []) hears_nothing (chain_one does r nothing_came t (subst (λ o. does r (receiving (Ok o) octets) t) none did))

  pub turned_heard : (now later : ℕ) (q r t u : P) (d e : C) (asked polled new : NodeValue) (found : Option Route) (from : Route) (octets seen_octets : List ℕ) (result : Result Seen Device)
      → Asked now q asked → Polled now q asked r polled → tells c now d → tells d later e → found ≡ Some from → seen_octets ≡ octets → does r (receiving (Ok found) octets) t
      → IfOk result (λ seen. (acts : List PortCall) × TurnHears later polled (came from seen_octets ∷ acts) seen new × Chain does t acts u) → IfOk result (λ seen. Taken seen u e new)
  turned_heard now later q r t u d e asked polled new found from octets seen_octets (Ok seen) a b told told_later some same did h =
      turned now later q r u d e asked polled new seen a b told told_later (came from octets ∷ h.0) (subst (λ xs. TurnHears later polled (came from xs ∷ h.0) seen new) same h.1)
      (t, subst (λ o. does r (receiving (Ok o) octets) t) some did, h.2)
  turned_heard now later q r t u d e asked polled new found from octets seen_octets (Err failure) a b told told_later some same did h = tt

  pub broken_at_reply : (now later : ℕ) (q r t u : P) (d e : C) (asked polled new : NodeValue) (found : Option Route) (from : Route) (octets seen_octets : List ℕ) (result : Result Seen Device)
      → Asked now q asked → Polled now q asked r polled → tells c now d → tells d later e → found ≡ Some from → seen_octets ≡ octets → does r (receiving (Ok found) octets) t
      → OnErr result ((reply : List ℕ) × Handles polled later from.peer seen_octets new replied reply × does t (send_failed from reply) u) → OnErr result (Broken u e new)
  broken_at_reply now later q r t u d e asked polled new found from octets seen_octets (Ok seen) a b told told_later some same did h = tt
  broken_at_reply now later q r t u d e asked polled new found from octets seen_octets (Err failure) a b told told_later some same did h = (
    a.0 ++ (b.0 ++ came from octets ∷ send_failed from h.0 ∷ []),
    now ∷ later ∷ [],
    at_reply now later a.0 b.0 asked polled new from octets h.0 a.1 b.1 (subst (λ xs. Handles polled later from.peer xs new replied h.0) same h.1),
    behind now q r u asked polled a b (came from octets ∷ send_failed from h.0 ∷ []) (t, subst (λ o. does r (receiving (Ok o) octets) t) some did, chain_one does t (send_failed from h.0) u h.2),
    (d, told, (e, told_later, refl)),
  )
