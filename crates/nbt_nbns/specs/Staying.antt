-- A server that stays up with a state, which it keeps over a restart, or without one, and is watched (our profile).
use Rattle.std.specs.Prelude.{◌≡◌, ◌<◌, ℕ, List, [], length, Option, Some, None, ⊤, true}
use Rattle.nbt_port.specs.PortCalls.{PortCall}
use Rattle.nbt_port.specs.Until.{IsOver}
use Rattle.nbt_port.specs.declared.fault.Fault.{Fault}
use Rattle.nbt_port.specs.declared.fault.Fault.TheVariants as f
use Rattle.nbt_server.specs.Serving.{ServerValue}
use Rattle.nbt_log.specs.declared.entry.Entry.{Entry}
use Rattle.nbt_store.specs.Calls.{StoreCall}
use Rattle.nbt_nbns.specs.Teller.{Sight, Seeing, Tells}
use Rattle.nbt_nbns.specs.declared.staying.Shown.{Shown}
use Rattle.nbt_nbns.specs.declared.state.State.{State}
use Rattle.nbt_serve.specs.Looking.{Desk, LooksAfter, FailsToLook}
use Rattle.nbt_serve.specs.Serving.{WatchesTurn}
use Rattle.nbt_serve.specs.Serving.{Breaks as BreaksServing}
use Rattle.nbt_serve.specs.Waiting.{ReplyValue, IsClear, batch}
use Rattle.nbt_serve.specs.Turning.{Keeping, KeepsTurn, BreaksKeeping}
use Rattle.nbt_serve.specs.declared.fault.KeepFault.{KeepFault}
use Rattle.nbt_serve.specs.declared.waiting.Sent.{Sent}
use Rattle.nbt_serve.specs.declared.fault.KeepFault.TheVariants as fault

-- a server, its port and its clock, and its state, if it has one
pub record Served (P S C : Type 0) : Type 0 where
  pub port : P
  pub clock : C
  pub server : ServerValue
  pub state : Option (State S)

-- the same, the clock of the time of day, what watches the server, and what is printed
pub record Staying (P S C D V : Type 0) : Type 0 where
  pub served : Served P S C
  pub day : D
  pub watcher : V
  pub text : Option (List ℕ)

abbrev pub keeping_of : {P S C : Type 0} → Served P S C → State S → Keeping P S C
keeping_of here state = record { port = here.port; store = state.store; clock = here.clock; server = here.server; share = state.share; waiting = state.waiting }

abbrev pub desk_of : {S D : Type 0} → State S → (day : D) → Desk S D
desk_of state day = record { store = state.store; day = day; header = state.header; waiting = state.waiting }

-- what holds before and after where there is no state, and what where there is one; a state neither comes nor goes
abbrev pub ByState : {S : Type 0} → (without : Type 0) → (State S → State S → Type 0) → (old new : Option (State S)) → Type 0
ByState without within None None = without
ByState without within (Some old) (Some new) = within old new
ByState without within old new = ⊥

-- the replies that wait; there is room for one more
abbrev pub waiting_in : {S : Type 0} → Option (State S) → List ReplyValue
waiting_in None = []
waiting_in (Some state) = state.waiting.replies

abbrev pub HasRoom : {S : Type 0} → Option (State S) → Type 0
HasRoom state = length (waiting_in state) < batch

-- no reply waits, and all is durable
abbrev pub IsIdle : {S : Type 0} → Option (State S) → Type 0
IsIdle None = ⊤
IsIdle (Some state) = IsClear state.waiting

module _ {P S C : Type 0} (does : P → PortCall → P → Type 0) (keeps : S → StoreCall → S → Type 0) (tells : C → ℕ → C → Type 0) where
  -- A turn: what the log has of it, and what left in it. Without a state nothing waits.
  abbrev pub Turns : (old : Served P S C) → Option Entry → Sent → (new : Served P S C) → Type 0
  Turns old entry sent new =
      ByState (WatchesTurn does tells old.port old.clock old.server entry new.port new.clock new.server × (sent ≡ record { ahead = true; left = None }))
      (λ s t. KeepsTurn does keeps tells (keeping_of old s) entry sent (keeping_of new t) × (t ≡ record s { store = t.store; share = t.share; waiting = t.waiting })) old.state new.state

  -- A turn in which a device fails. Without a state it is the port.
  abbrev pub Breaks : KeepFault → (old new : Served P S C) → Type 0
  Breaks why old new =
      ByState (BreaksServing does tells 1 old.port old.clock old.server new.port new.clock new.server × (why ≡ fault.Port))
      (λ s t. BreaksKeeping does keeps tells why (keeping_of old s) (keeping_of new t) × (t ≡ record s { store = t.store; share = t.share; waiting = t.waiting })) old.state new.state

  -- the same of a server that is watched: nothing is shown
  abbrev pub BreaksStaying : {D V : Type 0} → KeepFault → (old new : Staying P S C D V) → Type 0
  BreaksStaying why old new = Breaks why old.served new.served × (new ≡ record old { served = new.served })

-- The moment after a turn. Without a state it is the one to which the server came with a datagram, if one came; else the clock is read.
abbrev pub TellsAfter : {S C : Type 0} (tells : C → ℕ → C → Type 0) → Option (State S) → Option Entry → (last at : ℕ) → (old new : C) → Type 0
TellsAfter tells None (Some entry) last at old new = (at ≡ last) × (new ≡ old)
TellsAfter tells state entry last at old new = tells old at new

-- After a turn that went well the watcher is shown it; with a state it is shown the turns whose replies have left.
abbrev pub SeesTurn : {S V : Type 0} → Sight V → ServerValue → Sent → Shown → Option (State S) → Seeing V → Option (State S) → Seeing V → Type 0
SeesTurn sees server sent shown old before new after =
    ByState (sees before.watcher server shown before.text after.watcher after.text)
    (λ s t. Tells sees server s.waiting sent shown s.teller before t.teller after × (t ≡ record s { teller = t.teller })) old new

module _ {S D : Type 0} (keeps : S → StoreCall → S → Type 0) (days : D → ℕ → D → Type 0) (server : ServerValue) (at : ℕ) where
  -- The file of a state is looked after. Without one nothing is done.
  abbrev pub LooksAfterState : (old : Option (State S)) → (old_day : D) → (new : Option (State S)) → (day : D) → Type 0
  LooksAfterState old old_day new day = ByState (day ≡ old_day) (λ s t. LooksAfter keeps days server at (desk_of s old_day) (desk_of t day) × (t.share ≡ s.share) × (t.teller ≡ s.teller)) old new

  abbrev pub FailsToLookAfter : (old : Option (State S)) → (old_day : D) → (new : Option (State S)) → (day : D) → Type 0
  FailsToLookAfter old old_day new day = ByState ⊥ (λ s t. FailsToLook keeps days server at (desk_of s old_day) (desk_of t day) × (t.share ≡ s.share) × (t.teller ≡ s.teller)) old new

module _ {P S C D V : Type 0} (does : P → PortCall → P → Type 0) (failures : P → ℕ) (keeps : S → StoreCall → S → Type 0) (tells : C → ℕ → C → Type 0) (days : D → ℕ → D → Type 0) (sees : Sight V) where
  -- A turn goes well, the moment after it is told, and the watcher is shown it, with how many calls of the port failed by then.
  pub record Shows (old : Staying P S C D V) (shown : Shown) (new : Staying P S C D V) : Type 0 where
    pub turn_clock : C
    pub sent : Sent
    pub turned : Option (State S)
    pub turn : Turns does keeps tells old.served shown.entry sent (record new.served { clock = turn_clock; state = turned })
    pub now_told : TellsAfter tells turned shown.entry new.served.server.last shown.at turn_clock new.served.clock
    pub failures_are : shown.health.failures ≡ failures new.served.port
    pub seen : SeesTurn sees new.served.server sent shown turned (record { watcher = old.watcher; text = old.text }) new.served.state (record { watcher = new.watcher; text = new.text })

  -- Then the file of its state is looked after.
  pub record Watches (old : Staying P S C D V) (shown : Shown) (new : Staying P S C D V) : Type 0 where
    pub mid : Option (State S)
    pub shows : Shows old shown (record new { served = record new.served { state = mid } })
    pub looks : LooksAfterState keeps days new.served.server shown.at mid old.day new.served.state new.day

  -- a turn after which its time isn't over, or a reply waits
  abbrev pub WatchesOn : (until : Option ℕ) → Staying P S C D V → Shown → Staying P S C D V → Type 0
  WatchesOn until old shown new = Watches old shown new × (IsOver until shown.at → ¬ IsIdle new.served.state)

  -- the last turn, after which it is, and none waits
  abbrev pub WatchesLast : (until : Option ℕ) → Staying P S C D V → Staying P S C D V → Type 0
  WatchesLast until old new = (shown : Shown) × Watches old shown new × IsOver until shown.at × IsIdle new.served.state

  -- The store fails, in a turn or as the file is looked after; it is cut off by nothing else.
  pub data StoreFails (old new : Staying P S C D V) : Type 0 where
    in_turn : BreaksStaying does keeps tells fault.Store old new → StoreFails old new
    after_turn : (shown : Shown) (mid : Option (State S)) → Shows old shown (record new { served = record new.served { state = mid } }) → FailsToLookAfter keeps days new.served.server shown.at mid old.day new.served.state new.day → StoreFails old new

  abbrev pub CutsStaying : Fault → Staying P S C D V → Staying P S C D V → Type 0
  CutsStaying f.Store old new = StoreFails old new
  CutsStaying other old new = ⊥
