-- A request of a node, a registration, a release or a refresh, until a reply ends it (RFC 1002 section 6; the numbers are
-- our profile's).
use Rattle.std.specs.Prelude.{ℕ, ◌+◌, Bool, ◌&&◌, nat_lt, nat_le, min}
use Rattle.nbt_lease.specs.Config.{milliseconds}
use Rattle.nbt_node.specs.declared.transaction.Transaction.{Transaction}

-- how often a request is sent in all
abbrev pub sendings : ℕ
sendings = 3

-- so many milliseconds after it was sent a request is sent again (UCAST_REQ_RETRY_TIMEOUT)
abbrev pub retry_timeout : ℕ
retry_timeout = 5000

abbrev pub next_due : ℕ → ℕ
next_due now = now + retry_timeout

-- It is to be sent once more; it was sent as often as it is, and the next sending would be due.
abbrev pub is_next : (now tries due : ℕ) → Bool
is_next now tries due = nat_lt tries sendings && nat_le due now

abbrev pub is_over : (now tries due : ℕ) → Bool
is_over now tries due = nat_le sendings tries && nat_le due now

-- one that begins now with this id, the same once it is sent again, and the same once its next sending is put off
abbrev pub opened : (id now : ℕ) → Transaction
opened id now = record { id = id; first = now; tries = 1; due = next_due now }

abbrev pub again : (now : ℕ) → Transaction → Transaction
again now p = record p { tries = p.tries + 1; due = next_due now }

abbrev pub put_off : (until : ℕ) → Transaction → Transaction
put_off until p = record p { due = until }

-- a WACK puts the next sending off by its TTL, but by a minute at most
abbrev pub wait_until : (now ttl : ℕ) → ℕ
wait_until now ttl = now + milliseconds (min ttl 60)
