-- Which of its servers a host asks: all are addresses of one table (our profile).
use Rattle.std.specs.Prelude.{ℕ, ◌+◌, ◌*◌, nat_eq, nat_le, Bool, false, ◌&&◌, if◌then◌else◌, List, length, Option, Some, None}
use Rattle.std.specs.List.{list_any, slice_get}
use Rattle.std.specs.Option.{unwrap_or}
use Rattle.nbt_name.specs.declared.addr.Addr.{Addr}
use Rattle.nbt_lease.specs.Config.{ConfigValue, milliseconds}
use Rattle.nbt_node.specs.Datagrams.{same_end}
use Rattle.nbt_node.specs.Transaction.{sendings, retry_timeout}
use Rattle.nbt_port.specs.PortCalls.{PortCall, came, sent}
use Rattle.nbt_host.specs.declared.arguments.HostArguments.{HostArguments}
use Rattle.nbt_host.specs.declared.asked.Asked.{Asked}
use Rattle.nbt_host.specs.declared.asked.Noted.{Noted}

-- ---- a turn

-- a datagram from a server, whatever it says, and one to it
abbrev pub comes_from : (server : Addr) → PortCall → Bool
comes_from server (came from octets) = same_end from.peer server
comes_from server call = false

abbrev pub goes_to : (server : Addr) → PortCall → Bool
goes_to server (sent to octets) = same_end to.peer server
goes_to server call = false

-- what a turn's calls of the port were to a server
abbrev pub noted_of : (server : Addr) → List PortCall → Noted
noted_of server acts = record { heard = list_any (comes_from server) acts; asked = list_any (goes_to server) acts }

-- After a turn that ended at a moment: the server was heard then; or it was asked, then or before; or neither.
abbrev pub after_turn : Noted → (now : ℕ) → Asked → Asked
after_turn n now s = if n.heard then record s { heard = now; since = None } else (if n.asked then record s { since = Some (unwrap_or s.since now) } else s)

-- ---- silence

-- it was asked so long ago that a request had all its sendings, and 5 s after the last (RFC 1002 section 6)
abbrev pub was_tried : (now : ℕ) → (since : Option ℕ) → Bool
was_tried now None = false
was_tried now (Some first) = nat_le (first + sendings * retry_timeout) now

-- A server is silent where it was asked, and nothing has come from it for as long as a lease may be. No hold that it granted lasts then.
abbrev pub is_silent : ConfigValue → (now : ℕ) → Asked → Bool
is_silent config now s = was_tried now s.since && nat_le (s.heard + milliseconds config.longest) now

-- ---- the circle

-- a server that a host begins to ask at a moment
abbrev pub begun_at : (now : ℕ) → (place : ℕ) → Addr → Asked
begun_at now place server = record { server = server; place = place; heard = now; since = None }

-- the one that follows in the list, if one does, and else the first
abbrev pub follows : (now : ℕ) → (first : Addr) → (place : ℕ) → Option Addr → Asked
follows now first place None = begun_at now 0 first
follows now first place (Some server) = begun_at now (place + 1) server

-- Who is asked from a moment on, in place of a server that is silent then. One server alone is asked for ever.
abbrev pub next_of : HostArguments → (now : ℕ) → Asked → Option Asked
next_of a now s = if nat_eq (length a.others.items) 0 then None else (if is_silent a.config now s then Some (follows now a.server s.place (slice_get a.others.items s.place)) else None)
