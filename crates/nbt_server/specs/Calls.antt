-- What a server's calls make of it: it starts, resumes, handles a datagram, or runs out of memory (our profile). Which
-- leases live afterwards is all that is said of its table.
use Rattle.std.specs.Prelude.{◌≡◌, ℕ, ◌≤◌, List, [], Option, None, IfSome, is_some}
use Rattle.nbt_packet.specs.Message.{MessageValue}
use Rattle.nbt_packet.specs.Spelling.{Spells, AreWritten}
use Rattle.nbt_packet.specs.Text.{text}
use Rattle.nbt_lease.specs.Config.{ConfigValue}
use Rattle.nbt_lease.specs.Lease.{Rows}
use Rattle.nbt_server.specs.declared.outcome.Outcome.{Outcome}
use Rattle.nbt_server.specs.Outcomes.{has_reply, IsDone}
use Rattle.nbt_server.specs.Serving.{leases_at, ServerValue, speaks_from, ServesOctets, IsOverLimit, NeedsMemory}

-- a server that starts: it has no lease, and clients have no limit
pub record ServerStarts (config : ConfigValue) (now : ℕ) (server : ServerValue) : Type 0 where
  pub start : server.start ≡ now
  pub last : server.last ≡ now
  pub config_is : server.table.config ≡ config
  pub empty : server.table.rows ≡ []
  pub no_limit : server.client_rows ≡ None

-- the same server, of which a client may have so many live leases, or any number
abbrev pub limited : Option ℕ → ServerValue → ServerValue
limited client_rows server = record server { client_rows = client_rows }

-- a server as it was kept: its start, the time of its last datagram, and rows with its leases; of a limit for clients
-- nothing is kept
abbrev pub kept_server : ConfigValue → (start last : ℕ) → Rows → ServerValue
kept_server config start last rows = record { start = start; last = last; table = record { config = config; last = last; rows = rows }; client_rows = None }

-- A server resumes: it has the live leases that it had, its start, and so its silence, and its limits, and its clock
-- didn't go back.
pub record ServerResumes (was : ServerValue) (now : ℕ) (server : ServerValue) : Type 0 where
  pub leases : leases_at now server.table.rows ≡ leases_at now was.table.rows
  pub start : server.start ≡ was.start
  pub config : server.table.config ≡ was.table.config
  pub limit : server.client_rows ≡ was.client_rows
  pub was_called : was.last ≤ now
  pub called : server.last ≤ now

-- A server handles a datagram from this 32-bit address, at a time that doesn't go back: with this reply, whose written
-- form spells it, or with none.
pub record ServerTakes (old : ServerValue) (now ip : ℕ) (octets : List ℕ) (reply : Option MessageValue) (new : ServerValue) : Type 0 where
  pub goes_on : old.last ≤ now
  pub serves : ServesOctets old now ip octets reply (leases_at now new.table.rows)
  pub spelled : IfSome reply (λ message. Spells (text message) message)
  pub start : new.start ≡ old.start
  pub last : new.last ≡ now
  pub config : new.table.config ≡ old.table.config
  pub limit : new.client_rows ≡ old.client_rows

-- This is what it did with a datagram, which says whether there is a reply; `out` is its written form, or empty.
pub record ServerHandles (old : ServerValue) (now ip : ℕ) (octets : List ℕ) (outcome : Outcome) (out : List ℕ) (new : ServerValue) : Type 0 where
  pub reply : Option MessageValue
  pub takes : ServerTakes old now ip octets reply new
  pub done : IsDone takes.serves outcome
  pub has_reply_is : has_reply outcome ≡ is_some reply
  pub written : AreWritten reply out

-- It ran out of memory for a message that would change the leases: they are as before.
pub record ServerForgets (old : ServerValue) (now ip : ℕ) (octets : List ℕ) (new : ServerValue) : Type 0 where
  pub goes_on : old.last ≤ now
  pub message : MessageValue
  pub speaks : speaks_from old ≤ now
  pub spelled : Spells octets message
  pub room : ¬ IsOverLimit old.client_rows old.table now ip message
  pub needs : NeedsMemory old.table now ip message
  pub leases : leases_at now new.table.rows ≡ leases_at now old.table.rows
  pub start : new.start ≡ old.start
  pub last : new.last ≡ now
  pub config : new.table.config ≡ old.table.config
  pub limit : new.client_rows ≡ old.client_rows
