-- What a port hands on of what the port beneath it receives, and what it answers itself (our profile).
use Rattle.std.specs.Prelude.{◌≡◌, ℕ, List}
use Rattle.nbt_packet.specs.Message.{MessageValue}
use Rattle.nbt_packet.specs.Text.{text}
use Rattle.nbt_port.specs.declared.port.Route.{Route}
use Rattle.nbt_port.specs.PortCalls.{PortCall, nothing_came, came, receive_failed, sent, send_failed}
use Rattle.nbt_lease.specs.Lease.{Rows}
use Rattle.nbt_front.specs.Deciding.{DeskValue, desk_of, DecidesOctets}
use Rattle.nbt_front.specs.Standing.{Leaves}
use Rattle.nbt_front.specs.declared.deciding.Decision.{Decision}

-- a port, and the front at work before it
pub record Fronted (P : Type 0) : Type 0 where
  pub port : P
  pub desk : DeskValue

-- the call is no datagram of which the front decides at this moment
abbrev pub IsOther : DeskValue → (now : ℕ) → PortCall → Type 0
IsOther desk now call = (from : Route) (octets : List ℕ) (decision : Decision) (reply : MessageValue) → call ≡ came from octets → ¬ DecidesOctets desk now from.peer.ip octets decision reply

-- A call is one of the port beneath, after which such leases stand in the way as it leaves. Or beneath it a datagram came of which the
-- front decides, and its reply was sent by the datagram's route: then nothing came. Where that reply could not be sent, the receive
-- failed. The front stays. At which moment it decides no contract says.
pub data FrontDoes {P : Type 0} (does : P → PortCall → P → Type 0) (old : Fronted P) : PortCall → Fronted P → Type 0 where
  hands_on : (now : ℕ) (call : PortCall) (port : P) (kept : Rows) → does old.port call port → IsOther old.desk now call → Leaves old.desk.kept call kept
      → FrontDoes does old call (record { port = port; desk = desk_of old.desk.front kept old.desk.past })
  answers : (now : ℕ) (from : Route) (octets : List ℕ) (decision : Decision) (reply : MessageValue) (mid port : P) → DecidesOctets old.desk now from.peer.ip octets decision reply
      → does old.port (came from octets) mid → does mid (sent from (text reply)) port → FrontDoes does old nothing_came (record { port = port; desk = old.desk })
  can_not_answer : (now : ℕ) (from : Route) (octets : List ℕ) (decision : Decision) (reply : MessageValue) (mid port : P) → DecidesOctets old.desk now from.peer.ip octets decision reply
      → does old.port (came from octets) mid → does mid (send_failed from (text reply)) port → FrontDoes does old receive_failed (record { port = port; desk = old.desk })
