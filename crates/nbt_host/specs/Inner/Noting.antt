-- What a port that notes has noted, and a turn over it: words of contracts within the crate.
use Rattle.std.specs.Prelude.{◌≡◌, ℕ, Bool, ◌||◌, List}
use Rattle.nbt_name.specs.declared.addr.Addr.{Addr}
use Rattle.nbt_node.specs.Datagrams.{same_end}
use Rattle.nbt_port.specs.PortCalls.{PortCall, came, sent, Chain}
use Rattle.nbt_host.specs.declared.asked.Noted.{Noted}
use Rattle.nbt_host.specs.declared.watching.Look.{Look}
use Rattle.nbt_host.specs.Hosting.{HostValue, Terms}
use Rattle.nbt_host.specs.Releasing.{Releasing}
use Rattle.nbt_host.specs.Servers.{noted_of}
use Rattle.nbt_host.specs.Sleeping.{last_of}

-- the port beneath, which borrow of it that is, the server, and what was noted of it
pub record Noting (P : Type 0) : Type 0 where
  pub port : P
  pub name : ℕ
  pub server : Addr
  pub noted : Noted

-- one call more
abbrev pub note : (server : Addr) → PortCall → Noted → Noted
note server (came from octets) n = record n { heard = n.heard || same_end from.peer server }
note server (sent to octets) n = record n { asked = n.asked || same_end to.peer server }
note server call n = n

abbrev pub NotingDoes : {P : Type 0} → (P → PortCall → P → Type 0) → Noting P → PortCall → Noting P → Type 0
NotingDoes does old call new = does old.port call new.port × (new.name ≡ old.name) × (new.server ≡ old.server) × (new.noted ≡ note old.server call old.noted)

-- a turn, and what its calls of the port were to the server
abbrev pub NotedTurn : {P K : Type 0} → (turns : Terms → HostValue → List PortCall → List Look → HostValue → Type 0) → (P → PortCall → P → Type 0) → (K → Look → K → Type 0) → Terms → Noted → Releasing P K → Releasing P K → Type 0
NotedTurn turns does looks t noted old new = (acts : List PortCall) × (seen : List Look) × turns t old.host acts seen new.host × (new.last ≡ last_of old.last seen)
    × Chain does old.port acts new.port × Chain looks old.watch seen new.watch × (noted ≡ noted_of t.server acts)
