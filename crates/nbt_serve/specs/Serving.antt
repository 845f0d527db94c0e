-- What a server does in turns over a port and a clock (our profile).
use Rattle.std.specs.Prelude.{◌≡◌, ℕ, ◌+◌, ◌<◌, List, [], ◌∷◌, ◌++◌, length, Option, Some, None}
use Rattle.std.specs.List.{flat_map, sum_by}
use Rattle.nbt_packet.specs.Message.{MessageValue}
use Rattle.nbt_packet.specs.Text.{text}
use Rattle.nbt_server.specs.Serving.{ServerValue}
use Rattle.nbt_server.specs.Calls.{ServerTakes, ServerForgets}
use Rattle.nbt_server.specs.Outcomes.{IsDone}
use Rattle.nbt_server.specs.declared.outcome.Outcome.{Outcome}
use Rattle.nbt_log.specs.Kinds.{entry_of}
use Rattle.nbt_log.specs.declared.entry.Entry.{Entry}
use Rattle.nbt_serve.specs.declared.serving.Counts.{Counts}
use Rattle.nbt_port.specs.declared.port.Route.{Route}
use Rattle.nbt_port.specs.PortCalls.{PortCall, nothing_came, came, receive_failed, sent, send_failed, Chain}

-- ---- one turn

-- Nothing came in it; or a datagram did, by a route, and at the moment read then the server took it, with a reply or
-- without one, or it was lost.
pub data Turn : Type 0 where
  is_empty : Turn
  is_taken : (now : ℕ) → (from : Route) → (octets : List ℕ) → (reply : Option MessageValue) → Turn
  is_lost : (now : ℕ) → (from : Route) → (octets : List ℕ) → Turn

-- the calls of the port: one receive, and the reply by the datagram's route
abbrev pub acts_in : Turn → List PortCall
acts_in is_empty = nothing_came ∷ []
acts_in (is_taken now from octets None) = came from octets ∷ []
acts_in (is_taken now from octets (Some reply)) = came from octets ∷ sent from (text reply) ∷ []
acts_in (is_lost now from octets) = came from octets ∷ []

-- the readings of the clock: one where a datagram came
abbrev pub moments_in : Turn → List ℕ
moments_in is_empty = []
moments_in (is_taken now from octets reply) = now ∷ []
moments_in (is_lost now from octets) = now ∷ []

-- What a turn makes of a server. A datagram is lost only where its moment goes back, or it changes the leases and memory
-- was refused.
pub data Turns (old : ServerValue) : Turn → ServerValue → Type 0 where
  passes : Turns old is_empty old
  takes : (now : ℕ) (from : Route) (octets : List ℕ) (reply : Option MessageValue) (new : ServerValue) → ServerTakes old now from.peer.ip octets reply new → Turns old (is_taken now from octets reply) new
  goes_back : (now : ℕ) (from : Route) (octets : List ℕ) → now < old.last → Turns old (is_lost now from octets) old
  has_no_memory : (now : ℕ) (from : Route) (octets : List ℕ) (new : ServerValue) → ServerForgets old now from.peer.ip octets new → Turns old (is_lost now from octets) new

-- What the log has of a turn: nothing, where no datagram came or it was lost; else its entry, with what the server did.
abbrev pub IsLogged : {old new : ServerValue} {turn : Turn} → Turns old turn new → Option Entry → Type 0
IsLogged passes entry = entry ≡ None
IsLogged (takes now from octets reply new does) entry = (outcome : Outcome) × IsDone does.serves outcome × (entry ≡ Some (entry_of from.peer octets outcome))
IsLogged (goes_back now from octets early) entry = entry ≡ None
IsLogged (has_no_memory now from octets new forgets) entry = entry ≡ None

-- A server, a port and a clock go through a turn, and that is what it did.
pub record WatchesTurn {P C : Type 0} (does : P → PortCall → P → Type 0) (tells : C → ℕ → C → Type 0)
    (old_port : P) (old_clock : C) (old : ServerValue) (entry : Option Entry) (port : P) (clock : C) (new : ServerValue) : Type 0 where
  pub turn : Turn
  pub server : Turns old turn new
  pub port_did : Chain does old_port (acts_in turn) port
  pub clock_told : Chain tells old_clock (moments_in turn) clock
  pub entry_is : IsLogged server entry

-- ---- the turn in which the device fails

-- The receive failed; or a datagram came and was taken, and the send of its reply failed.
pub data Failure : Type 0 where
  of_receive : Failure
  of_send : (now : ℕ) → (from : Route) → (octets : List ℕ) → (reply : MessageValue) → Failure

abbrev pub acts_of : Failure → List PortCall
acts_of of_receive = receive_failed ∷ []
acts_of (of_send now from octets reply) = came from octets ∷ send_failed from (text reply) ∷ []

abbrev pub moments_of : Failure → List ℕ
moments_of of_receive = []
moments_of (of_send now from octets reply) = now ∷ []

-- the server is as after what was read
abbrev pub Fails : ServerValue → Failure → ServerValue → Type 0
Fails old of_receive new = new ≡ old
Fails old (of_send now from octets reply) new = ServerTakes old now from.peer.ip octets (Some reply) new

-- ---- all turns

abbrev pub replies_in : Turn → ℕ
replies_in (is_taken now from octets (Some reply)) = 1
replies_in turn = 0

abbrev pub lost_in : Turn → ℕ
lost_in (is_lost now from octets) = 1
lost_in turn = 0

-- each turn is one receive
abbrev pub counts_of : List Turn → Counts
counts_of turns = record { receives = length turns; replies = sum_by replies_in turns; lost = sum_by lost_in turns }

-- both together
abbrev pub sum_of : Counts → Counts → Counts
sum_of a b = record { receives = a.receives + b.receives; replies = a.replies + b.replies; lost = a.lost + b.lost }

-- A server, a port and a clock go through `count` turns, one after the other.
pub record Runs {P C : Type 0} (does : P → PortCall → P → Type 0) (tells : C → ℕ → C → Type 0) (count : ℕ) (counts : Counts)
    (old_port : P) (old_clock : C) (old : ServerValue) (port : P) (clock : C) (new : ServerValue) : Type 0 where
  pub turns : List Turn
  pub server : Chain Turns old turns new
  pub port_did : Chain does old_port (flat_map acts_in turns) port
  pub clock_told : Chain tells old_clock (flat_map moments_in turns) clock
  pub count_is : length turns ≡ count
  pub counts_are : counts ≡ counts_of turns

-- They go through some turns, fewer than `count`, and then the device fails.
pub record Breaks {P C : Type 0} (does : P → PortCall → P → Type 0) (tells : C → ℕ → C → Type 0) (count : ℕ)
    (old_port : P) (old_clock : C) (old : ServerValue) (port : P) (clock : C) (new : ServerValue) : Type 0 where
  pub turns : List Turn
  pub mid : ServerValue
  pub failure : Failure
  pub server : Chain Turns old turns mid
  pub fails : Fails mid failure new
  pub port_did : Chain does old_port (flat_map acts_in turns ++ acts_of failure) port
  pub clock_told : Chain tells old_clock (flat_map moments_in turns ++ moments_of failure) clock
  pub fewer : length turns < count
