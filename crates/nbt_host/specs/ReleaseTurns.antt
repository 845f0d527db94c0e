-- Names are given back over a port and a clock, turn by turn (our profile; RFC 1002 sections 4.2.9 and 6).
use Rattle.std.specs.Prelude.{◌≡◌, ◌≢◌, ℕ, ◌^◌, ◌<◌, false, true, List, ◌∷◌, ◌++◌, length, map, Option}
use Rattle.std.specs.List.{list_any}
use Rattle.nbt_name.specs.declared.addr.Addr.{Addr}
use Rattle.nbt_packet.specs.Message.{MessageValue}
use Rattle.nbt_packet.specs.Text.{text}
use Rattle.nbt_node.specs.Datagrams.{Says}
use Rattle.nbt_port.specs.declared.port.Route.{Route}
use Rattle.nbt_port.specs.PortCalls.{PortCall, nothing_came, came, receive_failed, sent, send_failed, route_to, Chain}
use Rattle.nbt_host.specs.declared.release.Release.{Release}
use Rattle.nbt_host.specs.Releases.{request, is_due, is_open, sent_at, answered}

-- it takes so many turns at most, of which each waits for one datagram: more than come in the time that it has
abbrev pub turns_most : ℕ
turns_most = 2 ^ 40

-- a port, and the names with what is known of them
pub record Releasing (P : Type 0) : Type 0 where
  pub port : P
  pub releases : List Release

-- What is made of what a receive was: a datagram counts from the server alone.
pub data Hears (server : Addr) (old : List Release) : PortCall → List Release → Type 0 where
  hears_nothing : Hears server old nothing_came old
  hears_other : (from : Route) (octets : List ℕ) → from.peer ≢ server → Hears server old (came from octets) old
  hears_server : (from : Route) (octets : List ℕ) (message : Option MessageValue) → from.peer ≡ server → Says octets message → Hears server old (came from octets) (map (answered message) old)

-- One request, at a moment: of a name that is due, to the server.
pub data Sends {P : Type 0} (does : P → PortCall → P → Type 0) (server : Addr) (own now : ℕ) (old : Releasing P) : PortCall → Releasing P → Type 0 where
  sends : (port : P) (before after : List Release) (r : Release) → old.releases ≡ before ++ r ∷ after → is_due now r ≡ true → does old.port (sent (route_to server) (text (request own r))) port
      → Sends does server own now old (sent (route_to server) (text (request own r))) (record { port = port; releases = before ++ sent_at now r ∷ after })

-- The calls of a turn up to the one that fails: a request is lost, or all that were due are sent, and the receive fails.
pub data Fails {P : Type 0} (does : P → PortCall → P → Type 0) (server : Addr) (own now : ℕ) (old : Releasing P) : Releasing P → Type 0 where
  loses_request : (acts : List PortCall) (mid : Releasing P) (port : P) (before after : List Release) (r : Release) → Chain (Sends does server own now) old acts mid
      → mid.releases ≡ before ++ r ∷ after → is_due now r ≡ true → does mid.port (send_failed (route_to server) (text (request own r))) port → Fails does server own now old (record mid { port = port })
  loses_receive : (acts : List PortCall) (mid : Releasing P) (port : P) → Chain (Sends does server own now) old acts mid → list_any (is_due now) mid.releases ≡ false → does mid.port receive_failed port
      → Fails does server own now old (record mid { port = port })

-- ---- turns

-- a port and a clock, and the names
pub record Giving (P C : Type 0) : Type 0 where
  pub clock : C
  pub here : Releasing P

-- The calls of a turn at a moment: requests, until none is due, and one receive.
pub record Goes {P : Type 0} (does : P → PortCall → P → Type 0) (server : Addr) (own now : ℕ) (old : Releasing P) (sending : List PortCall) (hearing : PortCall) (new : Releasing P) : Type 0 where
  pub asked : Releasing P
  pub sends : Chain (Sends does server own now) old sending asked
  pub none_due : list_any (is_due now) asked.releases ≡ false
  pub receives : does asked.port hearing new.port
  pub hears : Hears server asked.releases hearing new.releases

-- the moment of a turn, and its calls of the port
pub record Turn : Type 0 where
  pub now : ℕ
  pub sending : List PortCall
  pub hearing : PortCall

-- The clock is read, a name is open at that moment, and the calls follow.
pub record Takes {P C : Type 0} (does : P → PortCall → P → Type 0) (tells : C → ℕ → C → Type 0) (server : Addr) (own : ℕ) (old : Giving P C) (turn : Turn) (new : Giving P C) : Type 0 where
  pub told : tells old.clock turn.now new.clock
  pub some_open : list_any (is_open turn.now) old.here.releases ≡ true
  pub goes : Goes does server own turn.now old.here turn.sending turn.hearing new.here

-- ---- the whole

-- How it ends, after a number of turns: at a moment at which no name is open, or with all its turns.
pub data Ends {P C : Type 0} (tells : C → ℕ → C → Type 0) (most count : ℕ) (old : Giving P C) : Giving P C → Type 0 where
  is_over : (now : ℕ) (clock : C) → tells old.clock now clock → list_any (is_open now) old.here.releases ≡ false → Ends tells most count old (record old { clock = clock })
  is_spent : count ≡ most → Ends tells most count old old

pub record Releases {P C : Type 0} (does : P → PortCall → P → Type 0) (tells : C → ℕ → C → Type 0) (server : Addr) (own most : ℕ) (old new : Giving P C) : Type 0 where
  pub turns : List Turn
  pub mid : Giving P C
  pub takes : Chain (Takes does tells server own) old turns mid
  pub ends : Ends tells most (length turns) mid new

-- Fewer turns than all, and one whose calls fail.
pub record Breaks {P C : Type 0} (does : P → PortCall → P → Type 0) (tells : C → ℕ → C → Type 0) (server : Addr) (own most : ℕ) (old new : Giving P C) : Type 0 where
  pub turns : List Turn
  pub begun : Giving P C
  pub now : ℕ
  pub takes : Chain (Takes does tells server own) old turns begun
  pub told : tells begun.clock now new.clock
  pub some_open : list_any (is_open now) begun.here.releases ≡ true
  pub fails : Fails does server own now begun.here new.here
  pub fewer : length turns < most
