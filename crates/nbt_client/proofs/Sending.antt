-- What the calls of a node came to, by what they and the port returned.
use Rattle.std.proofs.Common.{◌≡◌, ℕ, ◌<◌, List, [], ◌∷◌, ◌++◌, refl, sym, subst, Option, None, Some, Ok, Err}
use Rattle.std.specs.Prelude.{◌≢◌, Result, OnOk, IsNone}
use Rattle.nbt_name.specs.declared.addr.Addr.{Addr}
use Rattle.nbt_node.specs.declared.event.Event.{Event}
use Rattle.nbt_node.specs.declared.event.Event.TheVariants as e
use Rattle.nbt_node.specs.Node.{NodeValue}
use Rattle.nbt_node.specs.Moves.{replied, told_of}
use Rattle.nbt_node.specs.Calls.{Polls}
use Rattle.nbt_port.specs.declared.port.Device.{Device}
use Rattle.nbt_port.specs.declared.port.Route.{Route}
use Rattle.nbt_client.specs.declared.turning.Want.{Want}
use Rattle.nbt_node.specs.Datagrams.{Handles}
use Rattle.nbt_client.specs.declared.turning.Seen.{Seen}
use Rattle.nbt_client.specs.declared.turning.Seen.TheVariants as s
use Rattle.nbt_port.specs.PortCalls.{PortCall, came, sent, sending, route_to, Chain}
use Rattle.nbt_client.specs.Turning.{AsksFor, Asks, asks, PollsTo, polls_to, PollsAll, EndsPolls, has_nothing, polls_back, TurnHears, hears, replies, seen_of}
use Rattle.nbt_port.proofs.Chains.{chain_one, chain-append}
use Rattle.nbt_client.proofs.Hearing.{silent_unless_reply}

pub ask_sent : {P A : Type 0} (does : P → PortCall → P → Type 0) (p q : P) (server : Addr) (now : ℕ) (want : Want) (old new : NodeValue) (octets : List ℕ) (result : Result A Device)
    → AsksFor now want old octets new → does p (sending (route_to server) octets result) q → OnOk result ((acts : List PortCall) × Asks server now want old acts new × Chain does p acts q)
ask_sent does p q server now want old new octets (Ok done) is did = (sent (route_to server) octets ∷ [], asks octets new is, chain_one does p (sent (route_to server) octets) q did)
ask_sent does p q server now want old new octets (Err failure) is did = tt

-- only one event tells of a status request
pub other_event : (event : Event) → event ≢ e.Reply → told_of event ≢ replied
other_event e.Nothing other = λ is. absurd cc
other_event e.Reply other = λ is. other refl
other_event (e.Granted seconds) other = λ is. absurd cc
other_event (e.Renewed seconds) other = λ is. absurd cc
other_event (e.Refused rcode) other = λ is. absurd cc
other_event e.Lost other = λ is. absurd cc
other_event (e.Freed rcode) other = λ is. absurd cc
other_event e.Wait other = λ is. absurd cc
other_event (e.Found entries cut) other = λ is. absurd cc
other_event e.NotFound other = λ is. absurd cc
other_event (e.Status names) other = λ is. absurd cc

pub heard_reply : (now : ℕ) (old new : NodeValue) (from : Route) (octets out : List ℕ) (event : Event) → event ≡ e.Reply → Handles old now from.peer octets new (told_of event) out
    → TurnHears now old (came from octets ∷ sent from out ∷ []) s.Nothing new
heard_reply now old new from octets out event is handles = replies from octets out new (subst (λ x. Handles old now from.peer octets new (told_of x) out) is handles)

pub heard_other : (now : ℕ) (old new : NodeValue) (from : Route) (octets out : List ℕ) (event : Event) (seen : Seen) → (event ≡ e.Reply → ⊥) → seen ≡ seen_of (told_of event) → Handles old now from.peer octets new (told_of event) out
    → TurnHears now old (came from octets ∷ []) seen new
heard_other now old new from octets out event seen other is handles =
    let silent = other_event event other in
    subst (λ x. TurnHears now old (came from octets ∷ []) x new) (sym is) (hears from octets (told_of event) new silent (silent_unless_reply old now from.peer octets new (told_of event) out silent handles))

-- a poll that has nothing ends the polls, and so does one that is refused
pub nothing_ends : (now : ℕ) (old new : NodeValue) (to : Option Addr) (out : List ℕ) → Polls old now new to out → IsNone to → EndsPolls now old new
nothing_ends now old new None out polls none = has_nothing out new polls
nothing_ends now old new (Some to) out polls none = absurd cc

pub back_ends : (now : ℕ) (old new : NodeValue) → now < old.last → new ≡ old → EndsPolls now old new
back_ends now old new back same = subst (EndsPolls now old) (sym same) (polls_back back)

pub polls_ended : {P : Type 0} (does : P → PortCall → P → Type 0) (p q : P) (now : ℕ) (first old new : NodeValue) → ((acts : List PortCall) × Chain (PollsTo now) first acts old × Chain does p acts q) → EndsPolls now old new
    → (acts : List PortCall) × PollsAll now first acts new × Chain does p acts q
polls_ended does p q now first old new so_far ends = (so_far.0, record { mid = old; polls = so_far.1; ends = ends }, so_far.2)

-- one poll more
pub polls_on : {P : Type 0} (does : P → PortCall → P → Type 0) (p q r : P) (now : ℕ) (first old new : NodeValue) (to : Addr) (out : List ℕ)
    → ((acts : List PortCall) × Chain (PollsTo now) first acts old × Chain does p acts q) → Polls old now new (Some to) out → does q (sent (route_to to) out) r
    → (acts : List PortCall) × Chain (PollsTo now) first acts new × Chain does p acts r
polls_on does p q r now first old new to out so_far polls did = (
  so_far.0 ++ sent (route_to to) out ∷ [],
  chain-append (PollsTo now) first old new so_far.0 (sent (route_to to) out ∷ []) so_far.1 (chain_one (PollsTo now) old (sent (route_to to) out) new (polls_to to out new polls)),
  chain-append does p q r so_far.0 (sent (route_to to) out ∷ []) so_far.2 (chain_one does q (sent (route_to to) out) r did),
)
