-- A server by another clock, which at each time shows a constant more: each of its times is greater by as much (our
-- profile).
use Rattle.std.specs.Prelude.{◌≡◌, ℕ, ◌+◌, List, map, Option}
use Rattle.nbt_packet.specs.Message.{MessageValue}
use Rattle.nbt_lease.specs.Config.{ConfigValue}
use Rattle.nbt_lease.specs.Lease.{live_count}
use Rattle.nbt_server.specs.declared.outcome.Outcome.{Outcome}
use Rattle.nbt_server.specs.Serving.{Lease, Leases, TableValue, leases_at, ServerValue, speaks_from}
use Rattle.nbt_server.specs.Calls.{ServerStarts, ServerTakes, ServerHandles, ServerForgets}

-- ---- all of its times, `more` milliseconds greater

abbrev pub shifted_lease : (more : ℕ) → Lease → Lease
shifted_lease more lease = record lease { end = lease.end + more }

abbrev pub shifted_leases : (more : ℕ) → Leases → Leases
shifted_leases more leases name = map (shifted_lease more) (leases name)

abbrev pub shifted_table : (more : ℕ) → TableValue → TableValue
shifted_table more table = record table { last = table.last + more; rows = map (λ row. (row.0, shifted_lease more row.1)) table.rows }

abbrev pub shifted_server : (more : ℕ) → ServerValue → ServerValue
shifted_server more server = record { start = server.start + more; last = server.last + more; table = shifted_table more server.table; client_rows = server.client_rows }

-- ---- what is the same by both clocks

-- what a server knows: which leases live, and how many, and until when it is silent
pub record TellsAlike (more : ℕ) (server : ServerValue) (now : ℕ) : Type 0 where
  pub leases : leases_at (now + more) (shifted_server more server).table.rows ≡ shifted_leases more (leases_at now server.table.rows)
  pub count : live_count (now + more) (shifted_server more server).table.rows ≡ live_count now server.table.rows
  pub silence : speaks_from (shifted_server more server) ≡ speaks_from server + more

-- what a server does: the same is replied and reported, and the server afterwards is shifted too
pub record DoesAlike (more : ℕ) (old : ServerValue) (now ip : ℕ) (octets : List ℕ) (new : ServerValue) : Type 0 where
  pub takes : (reply : Option MessageValue) → ServerTakes old now ip octets reply new → ServerTakes (shifted_server more old) (now + more) ip octets reply (shifted_server more new)
  pub handles : (outcome : Outcome) (out : List ℕ) → ServerHandles old now ip octets outcome out new → ServerHandles (shifted_server more old) (now + more) ip octets outcome out (shifted_server more new)
  pub forgets : ServerForgets old now ip octets new → ServerForgets (shifted_server more old) (now + more) ip octets (shifted_server more new)

abbrev pub StartsAlike : (more : ℕ) → Type 0
StartsAlike more = (config : ConfigValue) (now : ℕ) (server : ServerValue) → ServerStarts config now server → ServerStarts config (now + more) (shifted_server more server)
