-- A lookup over a port and a clock, turn by turn (our profile).
use Rattle.std.specs.Prelude.{◌≡◌, ℕ, ◌+◌, ◌<◌, Bool, true, false, List, [], ◌∷◌, ◌++◌, length, Some, None}
use Rattle.nbt_node.specs.declared.fault.LookupFault.{LookupFault}
use Rattle.nbt_node.specs.Node.{NodeValue, lookup_open}
use Rattle.nbt_node.specs.Moves.{Told, nothing, finds, finds_none, lists}
use Rattle.nbt_node.specs.Datagrams.{Handles}
use Rattle.nbt_port.specs.declared.port.Route.{Route}
use Rattle.nbt_port.specs.PortCalls.{PortCall, nothing_came, came, receive_failed, sent, send_failed, route_to, Chain}
use Rattle.nbt_client.specs.Turning.{PollsAll, BreaksPolls}
use Rattle.nbt_client.specs.declared.lookup.Ending.{Ending}
use Rattle.nbt_client.specs.declared.lookup.Ending.TheVariants as e
use Rattle.nbt_client.specs.declared.question.Question.{Question}
use Rattle.nbt_client.specs.Questions.{refusal_of, end_of, Begins}

-- ---- one turn

-- The moment of its polls and that of what came, what the polls sent, and what came, if anything.
pub record Turn : Type 0 where
  pub first : ℕ
  pub second : ℕ
  pub polling : List PortCall
  pub hearing : PortCall

abbrev pub acts_in : Turn → List PortCall
acts_in turn = turn.polling ++ turn.hearing ∷ []

abbrev pub moments_in : Turn → List ℕ
moments_in turn = turn.first ∷ turn.second ∷ []

-- The node takes what came, and is told what it was. Nothing is sent for it. A datagram that the node refuses since the
-- clock went back is passed over.
pub data Hears (now : ℕ) (old : NodeValue) : PortCall → Told → NodeValue → Type 0 where
  hears_nothing : Hears now old nothing_came nothing old
  hears_back : (from : Route) (octets : List ℕ) → now < old.last → Hears now old (came from octets) nothing old
  hears : (from : Route) (octets reply : List ℕ) (told : Told) (new : NodeValue) → Handles old now from.peer octets new told reply → Hears now old (came from octets) told new

-- The polls of the first moment, each sent to its end; then what is heard at the second.
pub record Takes (old : NodeValue) (turn : Turn) (told : Told) (new : NodeValue) : Type 0 where
  pub polled : NodeValue
  pub polls : PollsAll turn.first old turn.polling polled
  pub hears : Hears turn.second polled turn.hearing told new

-- what ends a lookup: the node knows its reply by the end, the id and the name that were asked
abbrev pub is_end : Told → Bool
is_end (finds entries cut) = true
is_end finds_none = true
is_end (lists names) = true
is_end told = false

-- A lookup goes on at a moment before its limit, as long as the node holds it open.
pub record GoesOn (limit : ℕ) (node : NodeValue) (now : ℕ) : Type 0 where
  pub early : now < limit
  pub is_open : lookup_open node now ≡ true

-- a port, a clock and a node
pub record Looking (P C : Type 0) : Type 0 where
  pub port : P
  pub clock : C
  pub node : NodeValue

-- a turn that doesn't end it
pub record Waits {P C : Type 0} (does : P → PortCall → P → Type 0) (tells : C → ℕ → C → Type 0) (limit : ℕ) (old : Looking P C) (turn : Turn) (new : Looking P C) : Type 0 where
  pub told : Told
  pub on : GoesOn limit old.node turn.first
  pub takes : Takes old.node turn told new.node
  pub other : is_end told ≡ false
  pub port_did : Chain does old.port (acts_in turn) new.port
  pub clock_told : Chain tells old.clock (moments_in turn) new.clock

-- ---- its end

-- What ended it, after a number of turns: a reply, of these octets; or a moment at which it doesn't go on, at which nothing is
-- done; or that it had all its turns.
pub data Ends {P C : Type 0} (does : P → PortCall → P → Type 0) (tells : C → ℕ → C → Type 0) (limit most count : ℕ) (old : Looking P C) : Ending → (octets : List ℕ) → Looking P C → Type 0 where
  is_told : (from : Route) (octets : List ℕ) (turn : Turn) (told : Told) (new : Looking P C) → GoesOn limit old.node turn.first → Takes old.node turn told new.node → is_end told ≡ true → turn.hearing ≡ came from octets
      → Chain does old.port (acts_in turn) new.port → Chain tells old.clock (moments_in turn) new.clock → Ends does tells limit most count old e.Told octets new
  is_late : (now : ℕ) (octets : List ℕ) (clock : C) → ¬ GoesOn limit old.node now → tells old.clock now clock → Ends does tells limit most count old e.NoReply octets (record old { clock = clock })
  is_spent : (octets : List ℕ) → count ≡ most → Ends does tells limit most count old e.NoReply octets old

-- Turns that don't end it, and then its end.
pub record Waited {P C : Type 0} (does : P → PortCall → P → Type 0) (tells : C → ℕ → C → Type 0) (limit most : ℕ) (ending : Ending) (octets : List ℕ) (old new : Looking P C) : Type 0 where
  pub turns : List Turn
  pub mid : Looking P C
  pub waits : Chain (Waits does tells limit) old turns mid
  pub ends : Ends does tells limit most (length turns) mid ending octets new

-- ---- the whole

-- The clock is read, and the node asks nothing, for this reason; or the question goes to its end, and turns follow up to the
-- limit, `patience` milliseconds after that moment.
pub data Looks {P C : Type 0} (does : P → PortCall → P → Type 0) (tells : C → ℕ → C → Type 0) (question : Question) (patience most : ℕ)
    (old_port : P) (old_clock : C) (old : NodeValue) : Ending → (octets : List ℕ) → P → C → NodeValue → Type 0 where
  is_refused : (now : ℕ) (fault : LookupFault) (octets : List ℕ) (clock : C) → tells old_clock now clock → refusal_of old now question ≡ Some fault
      → Looks does tells question patience most old_port old_clock old (e.Refused fault) octets old_port clock old
  is_asked : (now : ℕ) (request octets : List ℕ) (ending : Ending) (asked : P) (read : C) (opened : NodeValue) (port : P) (clock : C) (new : NodeValue) → tells old_clock now read
      → refusal_of old now question ≡ None → Begins old now question opened request → does old_port (sent (route_to (end_of question)) request) asked
      → Waited does tells (now + patience) most ending octets (record { port = asked; clock = read; node = opened }) (record { port = port; clock = clock; node = new })
      → Looks does tells question patience most old_port old_clock old ending octets port clock new

-- ---- the device fails

-- A turn in which it does: the node is as after the call that made the sending, or as it was before the receive.
pub data BreaksTurn {P C : Type 0} (does : P → PortCall → P → Type 0) (tells : C → ℕ → C → Type 0) (limit : ℕ) (old new : Looking P C) : Type 0 where
  at_poll : (first : ℕ) (polling : List PortCall) → GoesOn limit old.node first → tells old.clock first new.clock → BreaksPolls first old.node polling new.node → Chain does old.port polling new.port
      → BreaksTurn does tells limit old new
  at_receive : (first : ℕ) (polling : List PortCall) → GoesOn limit old.node first → tells old.clock first new.clock → PollsAll first old.node polling new.node
      → Chain does old.port (polling ++ receive_failed ∷ []) new.port → BreaksTurn does tells limit old new

-- Turns that don't end the lookup, fewer than all, and then such a turn.
pub record Broken {P C : Type 0} (does : P → PortCall → P → Type 0) (tells : C → ℕ → C → Type 0) (limit most : ℕ) (old new : Looking P C) : Type 0 where
  pub turns : List Turn
  pub mid : Looking P C
  pub waits : Chain (Waits does tells limit) old turns mid
  pub breaks : BreaksTurn does tells limit mid new
  pub fewer : length turns < most

-- The question is lost, the node having opened the lookup; or it goes to its end, and a turn fails.
pub data Fails {P C : Type 0} (does : P → PortCall → P → Type 0) (tells : C → ℕ → C → Type 0) (question : Question) (patience most : ℕ)
    (old_port : P) (old_clock : C) (old : NodeValue) : P → C → NodeValue → Type 0 where
  at_question : (now : ℕ) (request : List ℕ) (port : P) (clock : C) (new : NodeValue) → tells old_clock now clock → refusal_of old now question ≡ None → Begins old now question new request
      → does old_port (send_failed (route_to (end_of question)) request) port → Fails does tells question patience most old_port old_clock old port clock new
  at_turn : (now : ℕ) (request : List ℕ) (asked : P) (read : C) (opened : NodeValue) (port : P) (clock : C) (new : NodeValue) → tells old_clock now read → refusal_of old now question ≡ None
      → Begins old now question opened request → does old_port (sent (route_to (end_of question)) request) asked → Broken does tells (now + patience) most (record { port = asked; clock = read; node = opened }) (record { port = port; clock = clock; node = new })
      → Fails does tells question patience most old_port old_clock old port clock new
