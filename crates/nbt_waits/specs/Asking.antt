-- What a server has beside its leases that asks machines which addresses they have (our profile).
use Rattle.std.specs.Prelude.{ℕ, Bool, ◌&&◌, nat_eq, nat_le, if◌then◌else◌, List, [], ◌∷◌, ◌++◌, length, Option, Some, None}
use Rattle.nbt_name.specs.Wire.{NameValue}
use Rattle.nbt_name.specs.declared.addr.Kind.TheVariants.{Unique}
use Rattle.nbt_packet.specs.declared.message.Registration.{Registration}
use Rattle.nbt_lease.specs.Lease.{TableValue, leases_at}
use Rattle.nbt_lease.specs.declared.lease.Lease.{Lease}
use Rattle.nbt_confirm.specs.declared.request.Awaits.{Awaits}
use Rattle.nbt_confirm.specs.declared.request.Came.{Came}
use Rattle.nbt_confirm.specs.declared.request.Request.{Request}
use Rattle.nbt_confirm.specs.Firsts.{without_first}
use Rattle.nbt_confirm.specs.Inquiries.{same_kind}
use Rattle.nbt_confirm.specs.Waiting.{taken_as, waits_most, with_taken}
use Rattle.nbt_waits.specs.declared.asking.Asking.{Asking}

-- nothing waits, nothing is confirmed, and the server may grant nothing
abbrev pub asks_nothing : (rows_per_client : ℕ) → Asking
asks_nothing rows = record { waits = record { requests = []; pending = [] }; further = []; granted = []; rows_per_client = rows }

-- what a request asks for, and how it came
abbrev pub claim_of : Request → Registration
claim_of r = record { id = r.id; name = r.name; kind = r.kind; addr = r.addr; ttl = r.ttl }

abbrev pub came_of : Request → Came
came_of r = record { from = r.from; local = r.local; flags = r.flags }

-- ---- requests that wait

-- it waits for this, of which another address is asked
abbrev pub asking : Awaits → (asked : ℕ) → Request → Request
asking awaits asked r = record r { awaits = awaits; asked = asked }

-- it waits, unless too many do, or the same one does
abbrev pub waiting : Request → Asking → Asking
waiting r old = record old { waits = record old.waits { requests = with_taken (taken_as old.waits.requests r) old.waits.requests r } }

-- the first request for which this holds waits no longer
abbrev pub without_waiting : (Request → Bool) → Asking → Asking
without_waiting test old = record old { waits = record old.waits { requests = without_first test old.waits.requests } }

-- ---- requests that the server may grant

-- there is no room for one more
abbrev pub are_full : List Request → Bool
are_full granted = nat_le waits_most (length granted)

-- the server has it next, behind the others, unless too many come to it
abbrev pub with_granted : Request → List Request → List Request
with_granted r granted = if are_full granted then granted else granted ++ r ∷ []

abbrev pub granting : Request → Asking → Asking
granting r old = record old { granted = with_granted r old.granted }

-- ---- the lease of a unique name

abbrev pub first_of : List Lease → Option Lease
first_of [] = None
first_of (lease ∷ leases) = Some lease

-- the first live lease of a name; a unique name has one at most
abbrev pub lease_at : TableValue → (now : ℕ) → NameValue → Option Lease
lease_at table now name = first_of (leases_at now table.rows name)

-- it is a unique name's, and this address's
abbrev pub is_of : (holder : ℕ) → Lease → Bool
is_of holder lease = same_kind lease.kind Unique && nat_eq lease.addr holder

-- until when this address leases the unique name, if it does
abbrev pub end_by : (holder : ℕ) → Option Lease → Option ℕ
end_by holder None = None
end_by holder (Some lease) = if is_of holder lease then Some lease.end else None
