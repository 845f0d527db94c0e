-- Of which kind the line of a datagram is (our profile).
use Rattle.std.specs.Prelude.{ℕ, ◌/◌, ◌%◌, nat_eq, nat_lt, ◌&&◌, Bool, false, if◌then◌else◌, List, length, Option, Some, None}
use Rattle.nbt_name.specs.declared.addr.Addr.{Addr}
use Rattle.nbt_name.specs.Words.{word_at}
use Rattle.nbt_server.specs.declared.outcome.Outcome.{Outcome}
use Rattle.nbt_server.specs.declared.outcome.Outcome.TheVariants as o
use Rattle.nbt_log.specs.declared.entry.Entry.{Entry}
use Rattle.nbt_log.specs.declared.entry.LineKind.{LineKind}
use Rattle.nbt_log.specs.declared.entry.LineKind.TheVariants as kind

-- R is clear and B is set (RFC 1002 section 4.2.1.1)
abbrev pub is_broadcast : List ℕ → Bool
is_broadcast octets = if nat_lt (length octets) 4 then false else nat_lt (word_at octets 2) 0x8000 && nat_eq (word_at octets 2 / 0x10 % 2) 1

abbrev pub entry_of : Addr → List ℕ → Outcome → Entry
entry_of from octets outcome = record { from = from; count = length octets; is_broadcast = is_broadcast octets; outcome = outcome }

-- what was no request to a server
abbrev pub unknown_kind : (broadcast : Bool) → LineKind → LineKind
unknown_kind broadcast other = if broadcast then kind.Broadcast else other

-- A query, and a release of a name without leases, have no line.
abbrev pub kind_by : (broadcast : Bool) → Outcome → Option LineKind
kind_by broadcast (o.Granted claim seconds) = Some kind.Granted
kind_by broadcast (o.Renewed claim seconds) = Some kind.Renewed
kind_by broadcast (o.Refused claim refusal) = Some kind.Refused
kind_by broadcast (o.Released claim) = Some kind.Released
kind_by broadcast (o.NotReleased claim refusal) = Some kind.NotReleased
kind_by broadcast (o.Silent name) = Some kind.Unanswered
kind_by broadcast o.ForNodes = Some (unknown_kind broadcast kind.Foreign)
kind_by broadcast o.NoMessage = Some (unknown_kind broadcast kind.Malformed)
kind_by broadcast outcome = None

abbrev pub kind_of : Entry → Option LineKind
kind_of entry = kind_by entry.is_broadcast entry.outcome

-- a broadcast has a line where broadcasts are wanted
abbrev pub wanted : (broadcasts : Bool) → Option LineKind → Option LineKind
wanted false (Some kind.Broadcast) = None
wanted broadcasts other = other

abbrev pub told_kind : (broadcasts : Bool) → Entry → Option LineKind
told_kind broadcasts entry = wanted broadcasts (kind_of entry)
