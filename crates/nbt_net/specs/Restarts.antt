-- Lives by a clock that shows a constant more, and how a server's goes on after a restart (our profile).
use Rattle.std.specs.Prelude.{◌≡◌, ℕ, ◌+◌, List, [], ◌∷◌, ◌++◌, map, Option, None}
use Rattle.std.specs.Option.{option_map}
use Rattle.nbt_name.specs.declared.addr.Addr.{Addr}
use Rattle.nbt_lease.specs.Config.{ConfigValue, IsConfig}
use Rattle.nbt_port.specs.PortCalls.{Chain}
use Rattle.nbt_server.specs.Calls.{limited}
use Rattle.nbt_server.specs.Shifted.{shifted_server}
use Rattle.nbt_node.specs.Node.{NodeValue}
use Rattle.nbt_node.specs.Shifted.{shifted_node}
use Rattle.nbt_store.specs.Beginning.{BeginsAs}
use Rattle.nbt_store.specs.Calls.{Kept, MayLeaveAfter}
use Rattle.nbt_store.specs.declared.beginning.Begun.{Begun}
use Rattle.nbt_store.specs.declared.change.Change.{Change}
use Rattle.nbt_store.specs.declared.resuming.Found.{Found}
use Rattle.nbt_serve.specs.Devices.{DeviceCall}
use Rattle.nbt_serve.specs.Runs.{Begins, Held, Runs, Seen, calls_in as all_calls_in, gone_in, last_left, stored_in, turns_in}
use Rattle.nbt_net.specs.Wire.{Act}
use Rattle.nbt_net.specs.Hosts.{HostLives}
use Rattle.nbt_net.specs.Servers.{ServerEnd, never_up, up, down, act_at, ServerLives}
use Rattle.nbt_net.specs.Starts.{FindsLeft, HasNotGoneBack, ResumesLater}
use Rattle.nbt_net.specs.Turns.{acts_before, IsCutShort}

abbrev pub later_act : (more : ℕ) → Act → Act
later_act more act = record act { now = act.now + more }

abbrev pub later_end : (more : ℕ) → ServerEnd → ServerEnd
later_end more never_up = never_up
later_end more (up server) = up (shifted_server more server)
later_end more (down was) = down (shifted_server more was)

-- By such a clock a server lives the same life: with the same calls of its port, and each of its times so much later.
abbrev pub LivesLater : Type 0
LivesLater = (config : ConfigValue) (more : ℕ) (old new : ServerEnd) (acts : List Act) → Chain (ServerLives config) old acts new → Chain (ServerLives config) (later_end more old) (map (later_act more) acts) (later_end more new)

-- A server that keeps its leases lived so far; it ran, and crashed at some time; and a start found what that left, and went on. Then the
-- life goes on with the server that begins, by the clock of that start: it resumes, and then it has the number of rows of the start. It has
-- the earlier server's limit of clients. All of the life so far counts as later by one shift, and what the crash cut off is no part of it.
-- Where the file's own clock goes on, it is a premise that it hasn't gone back (`HasNotGoneBack`).
abbrev pub RestartGoesOn : Type 0
RestartGoesOn = (config : ConfigValue) (kept : Kept) (last : ℕ) (old new : Held) (seen : List Seen) → Begins kept last old → Runs old seen new → IsConfig old.server.table.config
    → (before behind : List DeviceCall) (left : List Change) → all_calls_in seen ≡ before ++ behind → (may : MayLeaveAfter kept (stored_in before) left)
    → (f : Found) (b : Begun) → (found : FindsLeft old.server (last_left last may) left f) → BeginsAs f b → b.reason ≡ None
    → (at : ℕ) (acts : List Act) → Chain (ServerLives config) never_up acts (up old.server)
    → (cut : IsCutShort config old.server (turns_in seen) (gone_in before) (last_left last may) left)
    × (HasNotGoneBack found cut.earlier.server b → (later : ResumesLater cut.earlier.server (last_left last may) left f b)
    × Chain (ServerLives config) never_up (map (later_act later.shift) (acts ++ (acts_before cut.earlier ++ act_at at ∷ [])) ++ act_at b.server.last ∷ act_at b.server.last ∷ []) (up (limited cut.earlier.server.client_rows b.server)))

-- By such a clock a host lives the same life. So each life of it, from a start on, may be judged by a clock of its own.
abbrev pub HostsLiveLater : Type 0
HostsLiveLater = (config : ConfigValue) (server at : Addr) (more : ℕ) (old new : Option NodeValue) (acts : List Act) → Chain (HostLives config server at) old acts new
    → Chain (HostLives config server at) (option_map (shifted_node more) old) (map (later_act more) acts) (option_map (shifted_node more) new)
