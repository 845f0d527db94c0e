-- What a port hands on of what the port beneath it receives (our profile).
use Rattle.std.specs.Prelude.{◌≡◌, ℕ, List, ◌++◌}
use Rattle.nbt_name.specs.declared.addr.Kind.TheVariants.{Group}
use Rattle.nbt_packet.specs.declared.message.Registration.{Registration}
use Rattle.nbt_packet.specs.Message.{MessageValue, HoldsNumbers, Fits, overwrite}
use Rattle.nbt_packet.specs.Spelling.{Spells}
use Rattle.nbt_packet.specs.Text.{text}
use Rattle.nbt_port.specs.declared.port.Route.{Route}
use Rattle.nbt_port.specs.PortCalls.{PortCall, came}
use Rattle.nbt_serve.specs.Samba.{as_registration, IsTaken}

-- the call is no datagram that is taken for a registration
abbrev pub IsOther : PortCall → Type 0
IsOther call = (from : Route) (octets : List ℕ) (r : Registration) → call ≡ came from octets → ¬ IsTaken octets r

-- A datagram that is taken comes as the registration by the same route; every other call is as it was.
pub data Becomes : PortCall → PortCall → Type 0 where
  taken : (from : Route) (octets : List ℕ) (r : Registration) → IsTaken octets r → Becomes (came from octets) (came from (as_registration octets))
  unchanged : (call : PortCall) → IsOther call → Becomes call call

-- A call is one of the port beneath, which it became.
pub record HandsOn {P : Type 0} (does : P → PortCall → P → Type 0) (old : P) (call : PortCall) (new : P) : Type 0 where
  pub beneath : PortCall
  pub did : does old beneath new
  pub becomes : Becomes beneath call

-- ---- what comes as it is

-- an overwrite of a group, which no node of ours sends
abbrev pub IsGroupOverwrite : MessageValue → Type 0
IsGroupOverwrite (overwrite r) = r.kind ≡ Group
IsGroupOverwrite _ = ⊥

-- Nothing is taken of a datagram of these octets, and nothing else becomes of it.
pub record ComesAsItIs (octets : List ℕ) : Type 0 where
  pub nothing_taken : (r : Registration) → ¬ IsTaken octets r
  pub nothing_changed : (from : Route) (call : PortCall) → Becomes (came from octets) call → call ≡ came from octets

-- Every datagram that spells another message comes as it is; so does every other message's text, followed by any octets: a
-- registration, a refresh, a release, a query, a status request, and each reply.
abbrev pub OthersComeAsTheyAre : Type 0
OthersComeAsTheyAre = (octets : List ℕ) (message : MessageValue) → Spells octets message → ¬ IsGroupOverwrite message → ComesAsItIs octets

abbrev pub WrittenComeAsTheyAre : Type 0
WrittenComeAsTheyAre = (message : MessageValue) (rest : List ℕ) → HoldsNumbers message → Fits message → ¬ IsGroupOverwrite message → ComesAsItIs (text message ++ rest)
