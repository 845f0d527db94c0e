-- What a program does with its port, its clock and its store, call by call in one order, and which acts of its life that is (our
-- profile).
use Rattle.std.specs.Prelude.{◌≡◌, ℕ, ◌+◌, ◌≤◌, ◌⊎◌, ⊤, List, [], ◌∷◌, ◌++◌, Option, Some, None, Contains}
use Rattle.std.specs.List.{AllByRecursion}
use Rattle.nbt_port.specs.declared.port.Route.{Route}
use Rattle.nbt_port.specs.Memory.{came_in, to as datagram_to}
use Rattle.nbt_port.specs.PortCalls.{PortCall, came, sent, send_failed, Chain}
use Rattle.nbt_store.specs.Calls.{StoreCall}
use Rattle.nbt_serve.specs.Devices.{DeviceCall, on_port, on_store}
use Rattle.nbt_net.specs.Wire.{Act}
use Rattle.nbt_net.specs.Turns.{calls_in}

-- ---- devices

-- a call of the port, a reading of the clock, or a call of the store
pub data Call : Type 0 where
  of_port : PortCall → Call
  reads : (now : ℕ) → Call
  of_store : StoreCall → Call

-- a program's port and clock, and its store, if it has one
pub record Machine (P C S : Type 0) : Type 0 where
  pub port : P
  pub clock : C
  pub store : Option S

-- a store neither comes nor goes
abbrev pub StoreDoes : {S : Type 0} → (S → StoreCall → S → Type 0) → Option S → StoreCall → Option S → Type 0
StoreDoes keeps None call new = ⊥
StoreDoes keeps (Some old) call None = ⊥
StoreDoes keeps (Some old) call (Some new) = keeps old call new

-- a program has no store
abbrev pub NoStore : Unit {0} → StoreCall → Unit {0} → Type 0
NoStore old call new = ⊥

-- A call is one of its own device, and leaves the others as they are.
abbrev pub MachineDoes : {P C S : Type 0} → (P → PortCall → P → Type 0) → (C → ℕ → C → Type 0) → (S → StoreCall → S → Type 0) → Machine P C S → Call → Machine P C S → Type 0
MachineDoes does tells keeps old (of_port call) new = does old.port call new.port × (new.clock ≡ old.clock) × (new.store ≡ old.store)
MachineDoes does tells keeps old (reads now) new = tells old.clock now new.clock × (new.port ≡ old.port) × (new.store ≡ old.store)
MachineDoes does tells keeps old (of_store call) new = StoreDoes keeps old.store call new.store × (new.port ≡ old.port) × (new.clock ≡ old.clock)

-- the calls of its port and of its store alone
abbrev pub devices_in : List Call → List DeviceCall
devices_in [] = []
devices_in (of_port call ∷ calls) = on_port call ∷ devices_in calls
devices_in (reads now ∷ calls) = devices_in calls
devices_in (of_store call ∷ calls) = on_store call ∷ devices_in calls

-- ---- the acts that it is

-- what a program did so far: its acts, and what its clock read last
pub record Story : Type 0 where
  pub acts : List Act
  pub last : ℕ

-- a program that did nothing yet
abbrev pub no_story : Story
no_story = record { acts = []; last = 0 }

abbrev pub going_on : (now : ℕ) → List Act → Story → Story
going_on now acts story = record { acts = story.acts ++ acts; last = now }

abbrev pub AreAt : (now : ℕ) → List Act → Type 0
AreAt now acts = AllByRecursion (λ act. act.now ≡ now) acts

-- An act of the story has this sending, and what the clock read last is no more than `slack` past the time of that act.
pub record IsOfAnAct (slack : ℕ) (story : Story) (to : Route) (octets : List ℕ) : Type 0 where
  pub act : Act
  pub acted : Contains story.acts act
  pub sends : Contains act.calls (sent to octets) ⊎ Contains act.calls (send_failed to octets)
  pub in_time : story.last ≤ act.now + slack

-- no reading of the clock, and no sending
abbrev pub IsQuiet : Call → Type 0
IsQuiet (of_port (sent to octets)) = ⊥
IsQuiet (of_port (send_failed to octets)) = ⊥
IsQuiet (reads now) = ⊥
IsQuiet call = ⊤

-- These calls are of these acts. At a reading of the clock stand acts at that time, or none: of what the port received right before it, or of
-- nothing that came. Whatever is sent later is of an act that stands before. A datagram at no act was dropped. What an act sends may never
-- leave.
pub data AreActs (slack : ℕ) : Story → List Call → Story → Type 0 where
  ends : (story : Story) → AreActs slack story [] story
  is_quiet : (old new : Story) (call : Call) (calls : List Call) → IsQuiet call → AreActs slack old calls new → AreActs slack old (call ∷ calls) new
  acts_at : (old new : Story) (now : ℕ) (acts : List Act) (calls : List Call) → AreAt now acts → came_in (calls_in acts) ≡ [] → AreActs slack (going_on now acts old) calls new → AreActs slack old (reads now ∷ calls) new
  acts_on : (old new : Story) (from : Route) (octets : List ℕ) (now : ℕ) (acts : List Act) (calls : List Call) → AreAt now acts → came_in (calls_in acts) ≡ datagram_to from octets ∷ []
      → AreActs slack (going_on now acts old) calls new → AreActs slack old (of_port (came from octets) ∷ reads now ∷ calls) new
  sends : (old new : Story) (to : Route) (octets : List ℕ) (calls : List Call) → IsOfAnAct slack old to octets → AreActs slack old calls new → AreActs slack old (of_port (sent to octets) ∷ calls) new
  loses : (old new : Story) (to : Route) (octets : List ℕ) (calls : List Call) → IsOfAnAct slack old to octets → AreActs slack old calls new → AreActs slack old (of_port (send_failed to octets) ∷ calls) new

-- ---- a life

-- From one end to another a program lived with its devices: it made these calls, which are these acts of its life.
pub record IsLived {E P C S : Type 0} (lives : E → Act → E → Type 0) (slack : ℕ) (does : P → PortCall → P → Type 0) (tells : C → ℕ → C → Type 0) (keeps : S → StoreCall → S → Type 0)
    (old_end : E) (old : Machine P C S) (new_end : E) (new : Machine P C S) : Type 0 where
  pub calls : List Call
  pub story : Story
  pub did : Chain (MachineDoes does tells keeps) old calls new
  pub lived : Chain lives old_end story.acts new_end
  pub are_acts : AreActs slack no_story calls story

-- Cut off behind some of its calls, it lived so far, by the first of its acts.
pub record IsCutAt {E : Type 0} (lives : E → Act → E → Type 0) (slack : ℕ) (old_end : E) (before : List Call) (story : Story) : Type 0 where
  pub mid_end : E
  pub so_far : Story
  pub lived : Chain lives old_end so_far.acts mid_end
  pub are_acts : AreActs slack no_story before so_far
  pub later : List Act
  pub rest : story.acts ≡ so_far.acts ++ later
