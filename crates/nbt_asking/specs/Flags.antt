-- With which flags a datagram came, before another port changed them (RFC 1002 section 4.2.1.1).
use Rattle.std.specs.Prelude.{ℕ, List, Option, Result, Ok, length, nat_lt, if◌then◌else◌}
use Rattle.nbt_name.specs.Words.{word_at}
use Rattle.nbt_port.specs.declared.port.Device.{Device}
use Rattle.nbt_port.specs.declared.port.Route.{Route}
use Rattle.nbt_port.specs.PortCalls.{PortCall, receive_failed, receiving, sending}

-- the word of R, OPCODE, NM_FLAGS and RCODE; 0 where the octets end before it does
abbrev pub flags_in : (octets : List ℕ) → ℕ
flags_in octets = if nat_lt (length octets) 4 then 0 else word_at octets 2

-- a port beneath, and the flags of what it received last
pub record FlagsPortValue (P : Type 0) : Type 0 where
  pub port : P
  pub flags : ℕ

-- Each call is one of the port beneath; what it receives sets the flags.
pub data FlagsDoes {P : Type 0} (does : P → PortCall → P → Type 0) (old : FlagsPortValue P) : PortCall → FlagsPortValue P → Type 0 where
  receives : (from : Option Route) (octets : List ℕ) (port : P) → does old.port (receiving (Ok from) octets) port → FlagsDoes does old (receiving (Ok from) octets) (record { port = port; flags = flags_in octets })
  fails : (port : P) → does old.port receive_failed port → FlagsDoes does old receive_failed (record old { port = port })
  sends : (result : Result (Unit {0}) Device) (to : Route) (octets : List ℕ) (port : P) → does old.port (sending to octets result) port → FlagsDoes does old (sending to octets result) (record old { port = port })
