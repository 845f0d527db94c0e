-- A server without a state, at work with its devices, from its start on (our profile).
use Rattle.std.specs.Prelude.{◌≡◌, ℕ, Option, None}
use Rattle.nbt_lease.specs.Config.{ConfigValue}
use Rattle.nbt_log.specs.declared.entry.Entry.{Entry}
use Rattle.nbt_port.specs.PortCalls.{PortCall}
use Rattle.nbt_server.specs.Calls.{ServerStarts, limited}
use Rattle.nbt_server.specs.Serving.{ServerValue}
use Rattle.nbt_serve.specs.Serving.{WatchesTurn, Breaks}
use Rattle.nbt_net.specs.Devices.{NoStore, IsLived}
use Rattle.nbt_net.specs.Servers.{never_up, up, ServerLives}
use Rattle.nbt_net.specs.Working.{HasChanged, DoesChanged}

-- a server, its port and its clock
pub record Bare (P C : Type 0) : Type 0 where
  pub port : P
  pub clock : C
  pub server : ServerValue

module _ {P C : Type 0} (does : P → PortCall → P → Type 0) (changes : P → P → Type 0) (tells : C → ℕ → C → Type 0) where
  -- It goes through a turn, or its port fails in one; its clock is read; or its port changes.
  pub data BareWorks (old : Bare P C) : Bare P C → Type 0 where
    takes_turn : (entry : Option Entry) (new : Bare P C) → WatchesTurn does tells old.port old.clock old.server entry new.port new.clock new.server → BareWorks old new
    port_fails : (new : Bare P C) → Breaks does tells 1 old.port old.clock old.server new.port new.clock new.server → BareWorks old new
    reads_clock : (now : ℕ) (clock : C) → tells old.clock now clock → BareWorks old (record old { clock = clock })
    port_changes : (port : P) → changes old.port port → BareWorks old (record old { port = port })

  -- any number of these
  pub data IsBareAtWork (old : Bare P C) : Bare P C → Type 0 where
    begins : IsBareAtWork old old
    goes_on : (mid new : Bare P C) → IsBareAtWork old mid → BareWorks mid new → IsBareAtWork old new

-- It starts at a reading of its clock and knows nothing, with a limit for its clients or without one.
pub record BareStarts {P C : Type 0} (tells : C → ℕ → C → Type 0) (config : ConfigValue) (boot : C) (first : Bare P C) : Type 0 where
  pub now : ℕ
  pub rows : Option ℕ
  pub server : ServerValue
  pub told : tells boot now first.clock
  pub starts : ServerStarts config now server
  pub limit : first.server ≡ limited rows server

-- From nothing, a start and such work is a life of the server too. A reply leaves before its clock reads a later time. Behind the last call its port
-- may have changed again, any number of times.
pub record BareWorkIsLived {P C : Type 0} (does : P → PortCall → P → Type 0) (changes : P → P → Type 0) (tells : C → ℕ → C → Type 0) (config : ConfigValue) (boot : C) (first new : Bare P C) : Type 0 where
  pub port : P
  pub changed : HasChanged changes port new.port
  pub lived : IsLived (ServerLives config) 0 (DoesChanged does changes) tells NoStore never_up (record { port = first.port; clock = boot; store = None }) (up new.server) (record { port = port; clock = new.clock; store = None })
