-- A server that keeps its leases, over any number of lives: what holds as it begins holds as it begins again (our profile).
use Rattle.std.specs.Prelude.{◌≡◌, ℕ, List, [], ◌∷◌, ◌++◌, map, Option, Some, None}
use Rattle.nbt_lease.specs.Config.{ConfigValue, IsConfig}
use Rattle.nbt_port.specs.PortCalls.{Chain}
use Rattle.nbt_server.specs.Calls.{limited}
use Rattle.nbt_store.specs.Beginning.{BeginsAs}
use Rattle.nbt_store.specs.Calls.{Kept, kept_rows, MayLeaveAfter}
use Rattle.nbt_store.specs.declared.beginning.Begun.{Begun}
use Rattle.nbt_store.specs.declared.change.Change.{Change}
use Rattle.nbt_store.specs.declared.resuming.Found.{Found}
use Rattle.nbt_store.specs.declared.resuming.Reason.{Reason}
use Rattle.nbt_serve.specs.Devices.{DeviceCall}
use Rattle.nbt_serve.specs.Runs.{Begins, Held, Runs, Seen, calls_in, gone_in, last_left, live_rows, stored_in, turns_in}
use Rattle.nbt_serve.specs.Waiting.{none_waits}
use Rattle.nbt_net.specs.Wire.{Act}
use Rattle.nbt_net.specs.Servers.{never_up, up, act_at, ServerLives}
use Rattle.nbt_net.specs.Starts.{FindsLeft, HasNotGoneBack, ResumesLater}
use Rattle.nbt_net.specs.Turns.{acts_before, IsCutShort}
use Rattle.nbt_net.specs.Restarts.{later_act}

-- a file of its live leases alone, at the last time of its header, which it is to write
abbrev pub kept_of : Begun → Kept
kept_of b = kept_rows b.header.last (live_rows b.server)

-- the server as it begins, with this limit of clients: no reply waits
abbrev pub held_of : (rows : Option ℕ) → Begun → Held
held_of rows b = record { server = limited rows b.server; waiting = none_waits b.header.last }

-- The header that it is to write is its own: it has its limits, its start, and what its clock read.
pub record HasOwnHeader (b : Begun) : Type 0 where
  pub life : b.header.life ≡ b.server.table.config.life
  pub longest : b.header.longest ≡ b.server.table.config.longest
  pub rows : b.header.rows ≡ b.server.table.config.rows
  pub start : b.header.start ≡ b.server.start
  pub last : b.header.last ≡ b.reads

-- However a server begins, with whatever it finds, a run begins with a file of its live leases alone, and its header has its limits, its start and
-- what its clock read.
abbrev pub StartBeginsARun : Type 0
StartBeginsARun = (f : Found) (b : Begun) (rows : Option ℕ) → BeginsAs f b → Begins (kept_of b) b.header.last (held_of rows b) × HasOwnHeader b

-- A server lived by these acts up to now, and a run begins with it. It has the life and the longest lease of these limits.
pub record IsUnderWay (config : ConfigValue) (acts : List Act) (kept : Kept) (last : ℕ) (held : Held) : Type 0 where
  pub lives : Chain (ServerLives config) never_up acts (up held.server)
  pub begins : Begins kept last held
  pub life_is : held.server.table.config.life ≡ config.life
  pub longest_is : held.server.table.config.longest ≡ config.longest

-- the acts of a start: the server starts or resumes, has its number of rows, and has its limit of clients
abbrev pub acts_of_start : Begun → List Act
acts_of_start b = act_at b.server.last ∷ act_at b.server.last ∷ act_at b.server.last ∷ []

-- A server that begins anew for the first time, with these limits, is under way.
abbrev pub FirstStart : Type 0
FirstStart = (config : ConfigValue) (f : Found) (b : Begun) (rows : Option ℕ) (reason : Reason) → f.config ≡ config → BeginsAs f b → b.reason ≡ Some reason → IsUnderWay config (acts_of_start b) (kept_of b) b.header.last (held_of rows b)

-- So is one that ran, crashed at or within any call of its devices, and began again: it goes on with what the crash left, or begins anew.
-- Where it goes on, all that it lived so far counts as later by one shift. It may have another number of rows than before. It is a premise
-- that the start finds what was left (`FindsLeft`), or, where it begins anew, has the same LIFE and LONGEST. Where the file's own clock goes
-- on, it is a premise that it hasn't gone back (`HasNotGoneBack`).
abbrev pub NextStart : Type 0
NextStart = (config : ConfigValue) (acts : List Act) (kept : Kept) (last : ℕ) (old new : Held) (seen : List Seen) → IsUnderWay config acts kept last old → Runs old seen new → IsConfig config
    → (before behind : List DeviceCall) (left : List Change) → calls_in seen ≡ before ++ behind → (may : MayLeaveAfter kept (stored_in before) left)
    → (cut : IsCutShort config old.server (turns_in seen) (gone_in before) (last_left last may) left)
    × ((at : ℕ) (f : Found) (b : Begun) (rows : Option ℕ) → BeginsAs f b
    → ((found : FindsLeft old.server (last_left last may) left f) → b.reason ≡ None → HasNotGoneBack found cut.earlier.server b → (later : ResumesLater cut.earlier.server (last_left last may) left f b)
    × IsUnderWay config (map (later_act later.shift) (acts ++ (acts_before cut.earlier ++ act_at at ∷ [])) ++ acts_of_start b) (kept_of b) b.header.last (held_of rows b))
    × ((reason : Reason) → f.config.life ≡ config.life → f.config.longest ≡ config.longest → b.reason ≡ Some reason → IsUnderWay config ((acts ++ (acts_before cut.earlier ++ act_at at ∷ [])) ++ acts_of_start b) (kept_of b) b.header.last (held_of rows b)))
