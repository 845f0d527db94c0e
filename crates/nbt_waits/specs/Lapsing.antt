-- What is done where a lease ends (our profile). The server's table is looked at, and stays as it is.
use Rattle.std.specs.Prelude.{◌≡◌, ℕ, ◌-◌, ◌^◌, min, nat_le, ◌&&◌, Bool, if◌then◌else◌, Option, Some, None}
use Rattle.std.specs.List.{find}
use Rattle.nbt_name.specs.Wire.{NameValue}
use Rattle.nbt_name.specs.declared.addr.Kind.TheVariants.{Unique}
use Rattle.nbt_lease.specs.Lease.{TableValue}
use Rattle.nbt_lease.specs.declared.lease.Lease.{Lease}
use Rattle.nbt_server.specs.Serving.{seconds_until}
use Rattle.nbt_confirm.specs.declared.further.Further.{Further}
use Rattle.nbt_confirm.specs.declared.request.Awaits.TheVariants as a
use Rattle.nbt_confirm.specs.declared.request.Request.{Request}
use Rattle.nbt_confirm.specs.Firsts.{with_first}
use Rattle.nbt_confirm.specs.Further.{is_at, is_kept, is_next, renewed_row, without_name}
use Rattle.nbt_confirm.specs.Inquiries.{name_port}
use Rattle.nbt_confirm.specs.Waiting.{is_past}
use Rattle.nbt_waits.specs.declared.asking.Asking.{Asking}
use Rattle.nbt_waits.specs.Asking.{asking, is_of, lease_at}
use Rattle.nbt_waits.specs.Doing.{Done, hands_on, quietly, waits}
use Rattle.nbt_waits.specs.Settling.{TakesOne}

-- ---- a request that waited for a lease's end

-- It asks the one that has a lease of the name by now, or the requester itself.
abbrev pub asked_next : Option Lease → Request → Request
asked_next None r = asking a.AfterLease r.from.ip r
asked_next (Some lease) r = asking a.Holder lease.addr r

abbrev pub Wakes : TableValue → (now : ℕ) → Asking → Done → Type 0
Wakes table now = TakesOne (λ r. is_past now r.awaits) (λ r. waits (asked_next (lease_at table now r.name) r))

-- ---- a holder that has the name no more

-- the flags of a request that nobody sent, which no reply leaves to
abbrev pub unasked : ℕ
unasked = 0

-- the seconds until then, as far as a TTL says them
abbrev pub seconds_left : (now until : ℕ) → ℕ
seconds_left now until = min (seconds_until now until) (2 ^ 32 - 1)

-- The address that takes a lease over asks for it as long as its own refreshes last.
abbrev pub takes_over : (now : ℕ) → NameValue → Further → Request
takes_over now name row = record {
  from = record { ip = row.addr; port = name_port };
  local = None;
  id = 0;
  flags = unasked;
  name = name;
  kind = Unique;
  addr = row.addr;
  ttl = seconds_left now row.renewed_until;
  awaits = a.Sender;
  asked = row.addr;
}

-- no further address of the name is left
abbrev pub ends_all : NameValue → Asking → Asking
ends_all name old = record old { further = without_name name old.further }

abbrev pub passes_to : Option Further → (now : ℕ) → NameValue → Asking → Done
passes_to None now name old = quietly (ends_all name old)
passes_to (Some row) now name old = hands_on (takes_over now name row) (ends_all name old)

-- The first of its machine's addresses that has answered has the server grant it, by its rules; all further addresses end.
abbrev pub passes_on : (now : ℕ) → NameValue → (holder : ℕ) → Asking → Done
passes_on now name holder old = passes_to (find (is_next now name holder) old.further) now name old

-- ---- a further address whose holder's lease was to end

-- its own refreshes last, but the lease that it was put by is over
abbrev pub is_over : (now : ℕ) → Further → Bool
is_over now row = nat_le row.end now && is_kept now row

-- It is listed as long as the holder's lease, where that was renewed; where another has the name, all end; where nobody has, the next one takes it over.
abbrev pub follows_by : Option Lease → (now : ℕ) → Further → Asking → Done
follows_by None now row old = passes_on now row.name row.holder old
follows_by (Some lease) now row old = if is_of row.holder lease
    then quietly (record old { further = with_first (is_at row.name row.addr) (renewed_row row.holder row.renewed_until lease.end) old.further })
    else quietly (ends_all row.name old)

-- The first such address follows it.
pub record Follows (table : TableValue) (now : ℕ) (old : Asking) (done : Done) : Type 0 where
  pub row : Further
  pub is_first : find (is_over now) old.further ≡ Some row
  pub done_is : done ≡ follows_by (lease_at table now row.name) now row old
