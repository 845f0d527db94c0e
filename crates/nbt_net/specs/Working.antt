-- A server that keeps its leases, at work with its devices: what its program does there, one thing after another, in any order (our profile).
use Rattle.std.specs.Prelude.{◌≡◌, ◌⊎◌, ℕ, List, Option, Some}
use Rattle.nbt_lease.specs.Config.{ConfigValue}
use Rattle.nbt_lease.specs.Lease.{Rows}
use Rattle.nbt_log.specs.declared.entry.Entry.{Entry}
use Rattle.nbt_port.specs.PortCalls.{PortCall}
use Rattle.nbt_front.specs.Deciding.{FrontValue, renewed}
use Rattle.nbt_front.specs.FrontPort.{Fronted}
use Rattle.nbt_store.specs.Calls.{StoreCall}
use Rattle.nbt_store.specs.declared.header.Header.{Header}
use Rattle.nbt_serve.specs.Looking.{Desk, LooksAfter, FailsToLook, header_at}
use Rattle.nbt_serve.specs.Runs.{Held, Runs, Seen, calls_in, stored_in}
use Rattle.nbt_serve.specs.Turning.{Keeping, KeepsTurn, BreaksKeeping}
use Rattle.nbt_serve.specs.declared.fault.KeepFault.TheVariants as fault
use Rattle.nbt_serve.specs.declared.waiting.Sent.{Sent}
use Rattle.nbt_net.specs.Devices.{devices_in, IsLived}
use Rattle.nbt_net.specs.Headers.{AllBeginWith}
use Rattle.nbt_net.specs.Servers.{up, ServerLives}

-- ---- another front, between two calls

-- another front takes the place of that of a port, by whatever leases
abbrev pub PutsFront : {P : Type 0} → Fronted P → Fronted P → Type 0
PutsFront old new = (front : FrontValue) × (live : Rows) × (at : ℕ) × (new ≡ record old { desk = renewed front live at old.desk })

-- a port as it was, or after some such changes
pub data HasChanged {P : Type 0} (changes : P → P → Type 0) (old : P) : P → Type 0 where
  stays : HasChanged changes old old
  changed_again : (mid new : P) → HasChanged changes old mid → changes mid new → HasChanged changes old new

-- a call of a port, which may have changed right before it, any number of times
abbrev pub DoesChanged : {P : Type 0} → (P → PortCall → P → Type 0) → (P → P → Type 0) → P → PortCall → P → Type 0
DoesChanged {P} does changes old call new = (mid : P) × HasChanged changes old mid × does mid call new

-- ---- its work

-- a header of its own is one with any other pair too, a moment and the time of day at it
abbrev pub HaveAnyPair : (Header → Type 0) → Type 0
HaveAnyPair own = (header : Header) (moment time : ℕ) → own header → own (header_at header moment time)

module _ {P S C D : Type 0} (does : P → PortCall → P → Type 0) (changes : P → P → Type 0) (keeps : S → StoreCall → S → Type 0) (tells : C → ℕ → C → Type 0) (days : D → ℕ → D → Type 0) (own : Header → Type 0) where
  -- It goes through a turn, or its port fails in one; its clock is read; its file is looked after, with a header of its own; or its port changes.
  pub data Works (old : Keeping P S C) : Keeping P S C → Type 0 where
    takes_turn : (entry : Option Entry) (sent : Sent) (new : Keeping P S C) → KeepsTurn does keeps tells old entry sent new → Works old new
    port_fails : (new : Keeping P S C) → BreaksKeeping does keeps tells fault.Port old new → Works old new
    reads_clock : (now : ℕ) (clock : C) → tells old.clock now clock → Works old (record old { clock = clock })
    looks : (at : ℕ) (day : D) (header : Header) (new : Desk S D) → own header → LooksAfter keeps days old.server at (record { store = old.store; day = day; header = header; waiting = old.waiting }) new
        → Works old (record old { store = new.store; waiting = new.waiting })
    port_changes : (port : P) → changes old.port port → Works old (record old { port = port })

  -- Its store fails, in a turn or as its file is looked after.
  pub data StopsWork (old : Keeping P S C) : Keeping P S C → Type 0 where
    in_turn : (new : Keeping P S C) → BreaksKeeping does keeps tells fault.Store old new → StopsWork old new
    at_look : (at : ℕ) (day : D) (header : Header) (new : Desk S D) → FailsToLook keeps days old.server at (record { store = old.store; day = day; header = header; waiting = old.waiting }) new
        → StopsWork old (record old { store = new.store; waiting = new.waiting })

  -- any number of these
  pub data IsAtWork (old : Keeping P S C) : Keeping P S C → Type 0 where
    begins : IsAtWork old old
    goes_on : (mid new : Keeping P S C) → IsAtWork old mid → Works mid new → IsAtWork old new

  -- it is at work still, or its store failed at last
  abbrev pub HasWorked : Keeping P S C → Keeping P S C → Type 0
  HasWorked old new = IsAtWork old new ⊎ ((mid : Keeping P S C) × IsAtWork old mid × StopsWork mid new)

-- the server, and what waits
abbrev pub held_in : {P S C : Type 0} → Keeping P S C → Held
held_in here = record { server = here.server; waiting = here.waiting }

-- Such work is a life of the server, call by call. A reply leaves only where its clock, as it was read last, reads no more than LIFE past the reading
-- of its request, or never. The calls of its port and of its store are those of a run of a server that keeps its leases. Each new file is begun with a
-- header of its own. Behind the last call its port may have changed again, any number of times.
pub record WorkIsLived {P S C : Type 0} (does : P → PortCall → P → Type 0) (changes : P → P → Type 0) (keeps : S → StoreCall → S → Type 0) (tells : C → ℕ → C → Type 0) (own : Header → Type 0) (config : ConfigValue) (old new : Keeping P S C) : Type 0 where
  pub port : P
  pub changed : HasChanged changes port new.port
  pub lived : IsLived (ServerLives config) config.life (DoesChanged does changes) tells keeps (up old.server) (record { port = old.port; clock = old.clock; store = Some old.store }) (up new.server) (record { port = port; clock = new.clock; store = Some new.store })
  pub seen : List Seen
  pub runs : Runs (held_in old) seen (held_in new)
  pub calls_are : devices_in lived.calls ≡ calls_in seen
  pub headers : AllBeginWith own (stored_in (calls_in seen))
