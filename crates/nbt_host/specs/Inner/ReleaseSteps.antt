-- A name's sending, and calls and turns that went by: words of contracts within the crate.
use Rattle.std.specs.Prelude.{◌≡◌, ℕ, true, false, List, length}
use Rattle.nbt_name.specs.declared.addr.Addr.{Addr}
use Rattle.nbt_packet.specs.Text.{text}
use Rattle.nbt_port.specs.PortCalls.{PortCall, sent, route_to, Chain}
use Rattle.nbt_host.specs.declared.release.Release.{Release}
use Rattle.nbt_host.specs.Releases.{request, is_due, sent_at}
use Rattle.nbt_host.specs.ReleaseTurns.{Releasing, Sends, Hears, Goes, Giving, Turn, Takes}

-- the request of one name, where it is due
pub data SendsOne {P : Type 0} (does : P → PortCall → P → Type 0) (server : Addr) (own now : ℕ) (old_port : P) (old : Release) : P → Release → Type 0 where
  sends_one : (port : P) → is_due now old ≡ true → does old_port (sent (route_to server) (text (request own old))) port → SendsOne does server own now old_port old port (sent_at now old)
  sends_none : is_due now old ≡ false → SendsOne does server own now old_port old old_port old

-- requests at a moment, one receive, and both
abbrev pub Reached : {P : Type 0} → (P → PortCall → P → Type 0) → (server : Addr) → (own now : ℕ) → Releasing P → Releasing P → Type 0
Reached does server own now old new = (acts : List PortCall) × Chain (Sends does server own now) old acts new

abbrev pub Heard : {P : Type 0} → (P → PortCall → P → Type 0) → (server : Addr) → Releasing P → Releasing P → Type 0
Heard does server old new = (hearing : PortCall) × does old.port hearing new.port × Hears server old.releases hearing new.releases

abbrev pub Went : {P : Type 0} → (P → PortCall → P → Type 0) → (server : Addr) → (own now : ℕ) → Releasing P → Releasing P → Type 0
Went does server own now old new = (sending : List PortCall) × (hearing : PortCall) × Goes does server own now old sending hearing new

-- a number of turns that went by
abbrev pub Passed : {P C : Type 0} → (P → PortCall → P → Type 0) → (C → ℕ → C → Type 0) → (server : Addr) → (own count : ℕ) → Giving P C → Giving P C → Type 0
Passed does tells server own count old new = (turns : List Turn) × Chain (Takes does tells server own) old turns new × (length turns ≡ count)
