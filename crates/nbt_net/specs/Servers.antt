-- The life of a name server, act by act (our profile).
use Rattle.std.specs.Prelude.{◌≡◌, ℕ, List, [], Option, Some, None}
use Rattle.std.specs.List.{AllByRecursion}
use Rattle.nbt_lease.specs.Config.{ConfigValue}
use Rattle.nbt_server.specs.Serving.{ServerValue}
use Rattle.nbt_server.specs.Calls.{ServerStarts, ServerResumes, limited}
use Rattle.nbt_serve.specs.Serving.{Turn, acts_in as calls_in, moments_in, Turns, Failure, acts_of as calls_of, moments_of, Fails}
use Rattle.nbt_net.specs.Wire.{Act}

-- The server was never up; it is up; or it is down, and was this server as it went down.
pub data ServerEnd : Type 0 where
  never_up : ServerEnd
  up : ServerValue → ServerEnd
  down : (was : ServerValue) → ServerEnd

-- what it is while it is up, and what it was when it went down
abbrev pub up_of : ServerEnd → Option ServerValue
up_of never_up = None
up_of (up server) = Some server
up_of (down was) = None

abbrev pub was_of : ServerEnd → Option ServerValue
was_of never_up = None
was_of (up server) = None
was_of (down was) = Some was

-- an act that calls no port
abbrev pub act_at : (now : ℕ) → Act
act_at now = record { now = now; calls = [] }

-- the clock was read at this moment, if it was read
abbrev pub AreReadAt : (now : ℕ) → (moments : List ℕ) → Type 0
AreReadAt now moments = AllByRecursion (λ moment. moment ≡ now) moments

-- the same server, with so many rows: its table may have as many live leases
abbrev pub with_rows : (rows : ℕ) → ServerValue → ServerValue
with_rows rows server = record server { table = record server.table { config = record server.table.config { rows = rows } } }

-- A server starts and knows nothing; or it resumes, with the leases that it had. It gets another limit for its clients, or none; or it gets
-- another number of rows. It goes through a turn, or the device fails in it. A reply stands at its turn, whenever it leaves, and also where it
-- never does: what is on the wire may come for a life, or not at all. And it crashes.
pub data ServerLives (config : ConfigValue) : ServerEnd → Act → ServerEnd → Type 0 where
  starts : (now : ℕ) (server : ServerValue) → ServerStarts config now server → ServerLives config never_up (act_at now) (up server)
  starts_anew : (now : ℕ) (was server : ServerValue) → ServerStarts config now server → ServerLives config (down was) (act_at now) (up server)
  resumes : (now : ℕ) (was server : ServerValue) → ServerResumes was now server → ServerLives config (down was) (act_at now) (up server)
  has_limit : (now : ℕ) (rows : Option ℕ) (server : ServerValue) → ServerLives config (up server) (act_at now) (up (limited rows server))
  has_rows : (now rows : ℕ) (server : ServerValue) → ServerLives config (up server) (act_at now) (up (with_rows rows server))
  takes_turn : (now : ℕ) (turn : Turn) (old new : ServerValue) → AreReadAt now (moments_in turn) → Turns old turn new → ServerLives config (up old) (record { now = now; calls = calls_in turn }) (up new)
  breaks_turn : (now : ℕ) (failure : Failure) (old new : ServerValue) → AreReadAt now (moments_of failure) → Fails old failure new → ServerLives config (up old) (record { now = now; calls = calls_of failure }) (up new)
  crashes : (now : ℕ) (server : ServerValue) → ServerLives config (up server) (act_at now) (down server)
