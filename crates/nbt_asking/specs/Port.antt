-- What a port of a server that asks does, call by call, by those of the port beneath (our profile).
use Rattle.std.specs.Prelude.{ℕ, List, Option, Some, None, Result, Ok}
use Rattle.nbt_port.specs.declared.port.Device.{Device}
use Rattle.nbt_port.specs.declared.port.Route.{Route}
use Rattle.nbt_port.specs.PortCalls.{PortCall, came, receive_failed, sent, receiving, sending}
use Rattle.nbt_waits.specs.declared.tally.AskTally.{AskTally}
use Rattle.nbt_asking.specs.declared.desk.Desk.{Desk}
use Rattle.nbt_asking.specs.Desk.{ComesBack, HasNothing, Passes, Replies}

-- a port beneath, a source of ids, what such a server has beside it, and what came of requests, counted
pub record AskingPortValue (P I : Type 0) : Type 0 where
  pub port : P
  pub ids : I
  pub desk : Desk
  pub tally : AskTally

-- A call is one of the port beneath, which tells the flags of what it received, or none.
pub data AskingDoes {P I : Type 0} (does : P → PortCall → P → Type 0) (told : P → ℕ) (old : AskingPortValue P I) : PortCall → AskingPortValue P I → Type 0 where
  comes_back : (from : Route) (octets : List ℕ) (desk : Desk) → ComesBack old.desk from octets desk → AskingDoes does told old (came from octets) (record old { desk = desk })
  passes : (from to_server : Option Route) (octets out : List ℕ) (port : P) (desk : Desk) → HasNothing old.desk → does old.port (receiving (Ok from) octets) port
      → Passes old.desk (told port) from octets to_server out desk → AskingDoes does told old (receiving (Ok to_server) out) (record old { port = port; desk = desk })
  fails : (port : P) → HasNothing old.desk → does old.port receive_failed port → AskingDoes does told old receive_failed (record old { port = port })
  holds_back : (to : Route) (octets : List ℕ) (desk : Desk) → Replies old.desk to octets None desk → AskingDoes does told old (sent to octets) (record old { desk = desk })
  leaves : (result : Result (Unit {0}) Device) (to : Route) (octets out : List ℕ) (port : P) (desk : Desk) → Replies old.desk to octets (Some out) desk → does old.port (sending to out result) port
      → AskingDoes does told old (sending to octets result) (record old { port = port; desk = desk })
