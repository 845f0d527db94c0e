-- What turns of the programs are in the lives of their ends (our profile).
use Rattle.std.specs.Prelude.{◌≡◌, ⊤, ℕ, List, [], ◌∷◌, ◌++◌, map, Some, Contains}
use Rattle.std.specs.List.{flat_map, AllByRecursion}
use Rattle.nbt_lease.specs.Config.{ConfigValue}
use Rattle.nbt_server.specs.Serving.{ServerValue}
use Rattle.nbt_node.specs.Node.{slots_most}
use Rattle.nbt_port.specs.Memory.{DatagramValue}
use Rattle.nbt_port.specs.PortCalls.{PortCall, sent, send_failed, Chain}
use Rattle.nbt_store.specs.Calls.{Kept, MayLeaveAfter}
use Rattle.nbt_store.specs.declared.change.Change.{Change}
use Rattle.nbt_serve.specs.Serving.{Turn, acts_in as calls_in_turn, moments_in, Turns}
use Rattle.nbt_serve.specs.Devices.{DeviceCall}
use Rattle.nbt_serve.specs.Runs.{Begins, Held, IsEarlier, Runs, Seen, calls_in as all_calls_in, gone_in, last_left, stored_in, turns_in}
use Rattle.nbt_host.specs.declared.watching.Look.{Look}
use Rattle.nbt_host.specs.Hosting.{HostBreaks, HostTurn, HostValue, Terms}
use Rattle.nbt_net.specs.Wire.{Act}
use Rattle.nbt_net.specs.Servers.{up, down, act_at, ServerLives}
use Rattle.nbt_net.specs.Hosts.{HostLives}

-- the calls of acts, in order
abbrev pub calls_in : List Act → List PortCall
calls_in acts = flat_map (λ act. act.calls) acts

-- ---- a host's turns

-- acts at these looks at the clocks, in order
abbrev pub AreAtLooks : List Look → List Act → Type 0
AreAtLooks [] acts = acts ≡ []
AreAtLooks (look ∷ looks) acts = (here : List Act) × (later : List Act) × (acts ≡ here ++ later) × AllByRecursion (λ act. act.now ≡ look.at) here × AreAtLooks looks later

-- it is a receive, whatever came of it
abbrev pub IsReceive : PortCall → Type 0
IsReceive (sent to octets) = ⊥
IsReceive (send_failed to octets) = ⊥
IsReceive call = ⊤

-- The first calls are the second but for some receives.
pub data LeavesReceivesOut : List PortCall → List PortCall → Type 0 where
  nothing : LeavesReceivesOut [] []
  not_this : (call : PortCall) (xs ys : List PortCall) → LeavesReceivesOut xs ys → LeavesReceivesOut (call ∷ xs) (call ∷ ys)
  this : (call : PortCall) (xs ys : List PortCall) → IsReceive call → LeavesReceivesOut xs ys → LeavesReceivesOut xs (call ∷ ys)

-- A host's turn is these acts of its life, at the looks at its clocks. They have all calls of its port, but for receives: where the machine slept
-- nothing is made of one.
pub record LivesThrough (t : Terms) (old : HostValue) (calls : List PortCall) (looks : List Look) (new : HostValue) : Type 0 where
  pub acts : List Act
  pub lives : Chain (HostLives t.config t.server old.node.addr) (Some old.node) acts (Some new.node)
  pub at_looks : AreAtLooks looks acts
  pub calls_are : LeavesReceivesOut (calls_in acts) calls
  pub addr_is : new.node.addr ≡ old.node.addr

-- So is each turn, and each one in which the device fails. It is a premise that the host has 14 slots (`slots_most`).
abbrev pub HostTurnsAreLived : Type 0
HostTurnsAreLived = (t : Terms) (old new : HostValue) (calls : List PortCall) (looks : List Look) → t.slots ≡ slots_most → HostTurn t old calls looks new → LivesThrough t old calls looks new

abbrev pub BrokenTurnsAreLived : Type 0
BrokenTurnsAreLived = (t : Terms) (old new : HostValue) (calls : List PortCall) (looks : List Look) → t.slots ≡ slots_most → HostBreaks t old calls looks new → LivesThrough t old calls looks new

-- and so are some turns after others
abbrev pub HostsLiveOn : Type 0
HostsLiveOn = (t : Terms) (old mid new : HostValue) (calls more : List PortCall) (looks later : List Look) → LivesThrough t old calls looks mid → LivesThrough t mid more later new → LivesThrough t old (calls ++ more) (looks ++ later) new

-- ---- a server's turns

-- a turn at its moment, and nothing where no datagram came
abbrev pub act_of : Turn → List Act
act_of turn = map (λ now. record { now = now; calls = calls_in_turn turn }) (moments_in turn)

abbrev pub acts_of_turns : List Turn → List Act
acts_of_turns turns = flat_map act_of turns

abbrev pub ServerTurnsAreLived : Type 0
ServerTurnsAreLived = (config : ConfigValue) (old new : ServerValue) (turns : List Turn) → Chain Turns old turns new → Chain (ServerLives config) (up old) (acts_of_turns turns) (up new)

-- and so is a run of a server that keeps its leases
abbrev pub ServerRunsAreLived : Type 0
ServerRunsAreLived = (config : ConfigValue) (old new : Held) (seen : List Seen) → Runs old seen new → Chain (ServerLives config) (up old.server) (acts_of_turns (turns_in seen)) (up new.server)

-- ---- a server that keeps its leases, and crashes

-- what it lived through before the crash
abbrev pub acts_before : {first : ServerValue} {turns : List Turn} {gone : List DatagramValue} {last : ℕ} {left : List Change} → IsEarlier first turns gone last left → List Act
acts_before e = acts_of_turns (e.front ++ e.asked)

-- Its life, as whatever a crash left of it has it: up to some turn, and some queries behind that, which were answered. Each reply that has left, or
-- was lost as it was sent, was sent in it.
pub record IsCutShort (config : ConfigValue) (first : ServerValue) (turns : List Turn) (gone : List DatagramValue) (last : ℕ) (left : List Change) : Type 0 where
  pub earlier : IsEarlier first turns gone last left
  pub lives : (now : ℕ) → Chain (ServerLives config) (up first) (acts_before earlier ++ act_at now ∷ []) (down earlier.server)
  pub replies : (reply : DatagramValue) → Contains gone reply → Contains (calls_in (acts_before earlier)) (sent reply.route reply.octets)

abbrev pub CrashCutsALifeShort : Type 0
CrashCutsALifeShort = (config : ConfigValue) (kept : Kept) (last : ℕ) (old new : Held) (seen : List Seen) → Begins kept last old → Runs old seen new
    → (before behind : List DeviceCall) (left : List Change) → all_calls_in seen ≡ before ++ behind → (may : MayLeaveAfter kept (stored_in before) left)
    → IsCutShort config old.server (turns_in seen) (gone_in before) (last_left last may) left
