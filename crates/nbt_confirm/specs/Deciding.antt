-- Which requests wait, by what a name server makes of them (our profile).
use Rattle.std.specs.Prelude.{◌≡◌, ◌≢◌, ℕ, List, [], ◌∷◌}
use Rattle.std.specs.List.{AllByRecursion}
use Rattle.nbt_name.specs.Wire.{IsStar}
use Rattle.nbt_name.specs.declared.addr.Addr.{Addr}
use Rattle.nbt_name.specs.declared.addr.Kind.{Kind}
use Rattle.nbt_name.specs.declared.addr.Kind.TheVariants.{Unique, Group}
use Rattle.nbt_packet.specs.declared.message.Registration.{Registration}
use Rattle.nbt_packet.specs.Message.{MessageValue}
use Rattle.nbt_packet.specs.Spelling.{Spells}
use Rattle.nbt_lease.specs.declared.lease.Lease.{Lease}
use Rattle.nbt_lease.specs.Lease.{TableValue, leases_at}
use Rattle.nbt_server.specs.declared.outcome.Outcome.{Outcome}
use Rattle.nbt_server.specs.declared.outcome.Outcome.TheVariants.{Refused}
use Rattle.nbt_server.specs.declared.outcome.Refusal.TheVariants.{Active}
use Rattle.nbt_server.specs.Outcomes.{claim_in}
use Rattle.nbt_server.specs.Serving.{AsksFor}
use Rattle.nbt_confirm.specs.declared.request.Awaits.{Awaits}
use Rattle.nbt_confirm.specs.declared.request.Awaits.TheVariants.{Holder, Sender, Source}
use Rattle.nbt_confirm.specs.declared.request.Came.{Came}
use Rattle.nbt_confirm.specs.declared.request.Request.{Request}

-- the octets spell a registration or a refresh of this
abbrev pub Claims : List ℕ → Registration → Type 0
Claims octets r = (m : MessageValue) × AsksFor m r × Spells octets m

-- it, as it came so, and as it waits for what the machine at an address says
abbrev pub request_of : Came → Registration → Awaits → (asked : ℕ) → Request
request_of came r awaits asked = record { from = came.from; local = came.local; id = r.id; flags = came.flags; name = r.name; kind = r.kind; addr = r.addr; ttl = r.ttl; awaits = awaits; asked = asked }

-- ---- a request that the server refused

-- a unique name's lease is this address's; a unique name has one lease
abbrev pub IsLeasedBy : (holder : ℕ) → List Lease → Type 0
IsLeasedBy holder leases = (lease : Lease) × (others : List Lease) × (leases ≡ lease ∷ others) × (lease.kind ≡ Unique) × (lease.addr ≡ holder)

-- The server refused it, since another address leases that unique name: it waits for what that address's machine says.
pub record IsHeldBack (table : TableValue) (now : ℕ) (came : Came) (octets : List ℕ) (outcome : Outcome) (request : Request) : Type 0 where
  pub r : Registration
  pub claims : Claims octets r
  pub unique : r.kind ≡ Unique
  pub holder : ℕ
  pub refused : outcome ≡ Refused (claim_in r) (Active holder)
  pub leased : IsLeasedBy holder (leases_at now table.rows r.name)
  pub request_is : request ≡ request_of came r Holder holder

-- ---- a request of OPCODE 15, before the server handles it

-- all of them are a group's, and none is this address's
abbrev pub MayJoin : (ip : ℕ) → List Lease → Type 0
MayJoin ip leases = AllByRecursion (λ lease. (lease.kind ≡ Group) × (lease.addr ≢ ip)) leases

-- the address has none of these leases, and one of this kind may stand beside them
abbrev pub MayBegin : Kind → (ip : ℕ) → List Lease → Type 0
MayBegin Unique ip leases = leases ≡ []
MayBegin Group ip leases = MayJoin ip leases

-- It waits for what the address says that sent it: where it is for another address, and where a lease would begin.
pub data AsksFirst (table : TableValue) (now : ℕ) (from : Addr) (r : Registration) : Awaits → Type 0 where
  source : ¬ IsStar r.name → r.addr ≢ from.ip → AsksFirst table now from r Source
  sender : ¬ IsStar r.name → r.addr ≡ from.ip → MayBegin r.kind from.ip (leases_at now table.rows r.name) → AsksFirst table now from r Sender
