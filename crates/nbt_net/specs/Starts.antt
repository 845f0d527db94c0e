-- A start that finds what a crash left of a run (our profile).
use Rattle.std.specs.Prelude.{◌≡◌, ℕ, ◌+◌, ◌≤◌, List, ◌++◌, Some, None, IsTrue}
use Rattle.std.specs.Borrow.{Bor}
use Rattle.nbt_lease.specs.Config.{IsConfig}
use Rattle.nbt_server.specs.Calls.{ServerResumes, limited}
use Rattle.nbt_server.specs.Serving.{ServerValue}
use Rattle.nbt_server.specs.Shifted.{shifted_server}
use Rattle.nbt_store.specs.Calls.{Kept, MayLeaveAfter}
use Rattle.nbt_store.specs.Changes.{last_of}
use Rattle.nbt_store.specs.Lines.{IsFile}
use Rattle.nbt_store.specs.Silence.{is_same_clock}
use Rattle.nbt_store.specs.Times.{first_times, times_after_all}
use Rattle.nbt_store.specs.declared.change.Change.{Change}
use Rattle.nbt_store.specs.declared.form.Form.TheVariants.{Three}
use Rattle.nbt_store.specs.declared.header.Header.{Header}
use Rattle.nbt_serve.specs.Devices.{DeviceCall}
use Rattle.nbt_serve.specs.Runs.{Begins, Held, IsEarlier, Runs, Seen, calls_in, gone_in, last_left, stored_in, turns_in}
use Rattle.nbt_store.specs.Beginning.{BeginsAs}
use Rattle.nbt_store.specs.declared.beginning.Begun.{Begun}
use Rattle.nbt_store.specs.declared.resuming.Found.{Found}
use Rattle.nbt_net.specs.Servers.{with_rows}

-- What a start finds are octets that a crash left: a file of these changes, whose header has this last time, and the time at which the
-- server that ran began. The limits of this start have that server's life and longest lease. They may have another number of rows.
pub record FindsLeft (ran : ServerValue) (last : ℕ) (left : List Change) (f : Found) : Type 0 where
  pub octets : Bor (List ℕ)
  pub header : Header
  pub end : ℕ
  pub kept : f.kept ≡ Some octets
  pub file : IsFile octets.now Three header left end
  pub last_is : header.last ≡ last
  pub start_is : header.start ≡ ran.start
  pub life_is : f.config.life ≡ ran.table.config.life
  pub longest_is : f.config.longest ≡ ran.table.config.longest

-- Where the clock of the file goes on, in its own boot, it hasn't gone back: the server serves from no earlier than the time of that
-- server's last datagram, which is what the same clock read then.
abbrev pub HasNotGoneBack : {ran : ServerValue} {last : ℕ} {left : List Change} {f : Found} → FindsLeft ran last left f → (was : ServerValue) → Begun → Type 0
HasNotGoneBack {left = left} {f = f} found was b = IsTrue (is_same_clock found.header (times_after_all left (first_times found.header)) f.seen) → was.last ≤ b.server.last

-- The server that begins is that one, resumed with all of its times so much later, and with the number of rows of the start. At the start
-- its clock reads no less than the last time of what was left, counted so much later, and it serves from no earlier than that reading on.
-- That clock is the machine's, as much ahead as the header of its own file says. Its limit of clients is set to that one's.
pub record ResumesLater (was : ServerValue) (last : ℕ) (left : List Change) (f : Found) (b : Begun) : Type 0 where
  pub shift : ℕ
  pub resumes : ServerResumes (with_rows f.config.rows (shifted_server shift was)) b.server.last (limited was.client_rows b.server)
  pub onward : last_of last left + shift ≤ b.reads
  pub machine : b.reads ≡ f.seen.monotonic + b.header.ahead
  pub serves : b.reads ≤ b.server.last

-- Whatever a crash leaves of a run, a start that finds it and goes on resumes an earlier server of that run. Where the file's own clock goes on, it
-- is a premise that it hasn't gone back (`HasNotGoneBack`).
abbrev pub StartResumesAnEarlierServer : Type 0
StartResumesAnEarlierServer = (kept : Kept) (last : ℕ) (old new : Held) (seen : List Seen) → Begins kept last old → Runs old seen new → IsConfig old.server.table.config
    → (before behind : List DeviceCall) (left : List Change) → calls_in seen ≡ before ++ behind → (may : MayLeaveAfter kept (stored_in before) left)
    → (f : Found) (b : Begun) → (found : FindsLeft old.server (last_left last may) left f) → BeginsAs f b → b.reason ≡ None
    → (e : IsEarlier old.server (turns_in seen) (gone_in before) (last_left last may) left) × (HasNotGoneBack found e.server b → ResumesLater e.server (last_left last may) left f b)
