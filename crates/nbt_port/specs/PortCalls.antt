-- What a port and a clock do, call by call (our profile).
use Rattle.std.specs.Prelude.{◌≡◌, ℕ, ◌+◌, min, max, List, [], ◌∷◌, Option, Some, None, Result, Ok, Err}
use Rattle.nbt_port.specs.Numbers.{count_most}
use Rattle.nbt_name.specs.declared.addr.Addr.{Addr}
use Rattle.nbt_port.specs.declared.port.Device.{Device}
use Rattle.nbt_port.specs.declared.port.Route.{Route}

-- to a host, from the port's first address
abbrev pub route_to : Addr → Route
route_to peer = record { peer = peer; local = None }

-- One call of a port, with what came of it: nothing came, or a datagram did by a route, or the device failed; a datagram was
-- sent by a route, or the device failed, and it was lost.
pub data PortCall : Type 0 where
  nothing_came : PortCall
  came : (from : Route) → (octets : List ℕ) → PortCall
  receive_failed : PortCall
  sent : (to : Route) → (octets : List ℕ) → PortCall
  send_failed : (to : Route) → (octets : List ℕ) → PortCall

-- what a receive was, by what it returned and by what it left in its buffer
abbrev pub receiving : Result (Option Route) Device → (octets : List ℕ) → PortCall
receiving (Ok None) octets = nothing_came
receiving (Ok (Some from)) octets = came from octets
receiving (Err failure) octets = receive_failed

-- what a send was, by what it returned
abbrev pub sending : {A : Type 0} → Route → (octets : List ℕ) → Result A Device → PortCall
sending to octets (Ok done) = sent to octets
sending to octets (Err failure) = send_failed to octets

-- one failure more, up to the greatest count
abbrev pub one_more : ℕ → ℕ
one_more count = max count (min (count + 1) count_most)

-- a count of failures grows by one exactly where a call fails
abbrev pub CountsFailure : {A : Type 0} → (before after : ℕ) → Result A Device → Type 0
CountsFailure before after (Ok value) = after ≡ before
CountsFailure before after (Err failure) = after ≡ one_more before

-- steps in order, each from where the one before it led
abbrev pub Chain : {S X : Type 0} → (S → X → S → Type 0) → S → List X → S → Type 0
Chain step old [] new = new ≡ old
Chain {S = S} step old (x ∷ xs) new = (mid : S) × step old x mid × Chain step mid xs new
