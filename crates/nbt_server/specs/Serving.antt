-- What the name server does with a message, and with octets: RFC 1002 section 5.1.4. The silence after a start, the
-- refusal of what is not the sender's own, and which refusal has which RCODE are our profile.
use Rattle.std.specs.Prelude.{◌≡◌, ℕ, ◌+◌, ◌-◌, ◌/◌, ◌<◌, ◌≤◌, Bool, nat_lt, List, [], take, length, Option, Some, None, Result, Ok, Err}
use Rattle.std.specs.List.{flat_map}
pub use Rattle.nbt_name.specs.declared.addr.Kind.{Kind}
use Rattle.nbt_name.specs.Wire.{NameValue, IsStar}
pub use Rattle.nbt_packet.specs.declared.message.Registration.{Registration}
use Rattle.nbt_packet.specs.Message.{MessageValue, registration, overwrite, refresh, release, query, registered, released, found, not_found}
pub use Rattle.nbt_packet.specs.Spelling.{Spells}
use Rattle.nbt_packet.specs.Text.{entry, entries_most}
pub use Rattle.nbt_lease.specs.declared.fault.GrantFault.{GrantFault}
use Rattle.nbt_lease.specs.declared.fault.GrantFault.TheVariants.{Active, TableFull, GroupFull, OutOfMemory}
pub use Rattle.nbt_lease.specs.declared.lease.Grant.{Grant}
pub use Rattle.nbt_lease.specs.declared.lease.Lease.{Lease}
pub use Rattle.nbt_lease.specs.declared.lease.Released.{Released}
pub use Rattle.nbt_lease.specs.declared.lease.Released.TheVariants.{Gone, NoLease, OfOthers}
use Rattle.nbt_lease.specs.Config.{milliseconds}
pub use Rattle.nbt_lease.specs.Lease.{Leases, TableValue, leases_at}
use Rattle.nbt_lease.specs.Lease.{count_of, HasNone}
use Rattle.nbt_lease.specs.Rules.{Asked, asked, Grants, ChangesLeases, Releases, IsLeastEnd}

-- ---- what is requested

-- A registration and a refresh request a lease.
pub data AsksFor : MessageValue → Registration → Type 0 where
  by_registration : (r : Registration) → AsksFor (registration r) r
  by_refresh : (r : Registration) → AsksFor (refresh r) r

-- the address is the sender's, and the name doesn't begin with `*`
abbrev pub IsOwn : (ip : ℕ) → NameValue → (addr : ℕ) → Type 0
IsOwn ip name addr = (addr ≡ ip) × (¬ IsStar name)

abbrev pub asked_in : Registration → Asked
asked_in r = asked r.addr r.kind r.ttl

-- a response, a status request: a server has nothing to say
abbrev pub IsForNodes : MessageValue → Type 0
IsForNodes (registration r) = ⊥
IsForNodes (overwrite r) = ⊥
IsForNodes (refresh r) = ⊥
IsForNodes (release id name kind addr) = ⊥
IsForNodes (query id name) = ⊥
IsForNodes _ = Unit {0}

-- ---- what is replied

-- RCODEs of the replies (RFC 1002 sections 4.2.6, 4.2.11 and 4.2.14): the server fails, the name isn't there, the server
-- refuses, another node owns the name
abbrev pub server_error : ℕ
server_error = 2

abbrev pub name_error : ℕ
name_error = 3

abbrev pub refused_error : ℕ
refused_error = 5

abbrev pub active_error : ℕ
active_error = 6

abbrev pub fault_rcode : GrantFault → ℕ
fault_rcode Active = active_error
fault_rcode TableFull = server_error
fault_rcode GroupFull = server_error
fault_rcode OutOfMemory = server_error

-- a refusal has a TTL of 0
abbrev pub refusal : (rcode : ℕ) → Registration → MessageValue
refusal rcode r = registered rcode (record r { ttl = 0 })

abbrev pub grant_reply : Registration → Result Grant GrantFault → MessageValue
grant_reply r (Ok grant) = registered 0 (record r { ttl = grant.seconds })
grant_reply r (Err fault) = refusal (fault_rcode fault) r

-- a release is refused only if other nodes have the name, and the sender doesn't
abbrev pub release_rcode : Released → ℕ
release_rcode Gone = 0
release_rcode NoLease = 0
release_rcode OfOthers = active_error

-- the seconds until an expiry, rounded up
abbrev pub seconds_until : (now end : ℕ) → ℕ
seconds_until now end = (end - now + 999) / 1000

-- the entries of leases, in their order
abbrev pub entries : List Lease → List ℕ
entries leases = flat_map (λ lease. entry lease.kind lease.addr) leases

-- a response lists the first leases of a name: all, or as many as fit in a datagram
abbrev pub listed : NameValue → List Lease → List Lease
listed name leases = take (entries_most name) leases

-- it is cut where it doesn't list all
abbrev pub is_cut : NameValue → List Lease → Bool
is_cut name leases = nat_lt (length (listed name leases)) (length leases)

-- its TTL is that of the first expiry among all leases, listed or not
abbrev pub found_reply : (id : ℕ) → NameValue → (now end : ℕ) → List Lease → MessageValue
found_reply id name now end leases = found id name (seconds_until now end) (entries (listed name leases)) (is_cut name leases)

-- ---- the server's rules

-- What the server does with a message from the address `ip`: the reply, or none, and the leases that live
-- afterwards. A line for each rule.
pub data Serves (table : TableValue) (now ip : ℕ) : MessageValue → Option MessageValue → Leases → Type 0 where
  registers : (m : MessageValue) (r : Registration) (result : Result Grant GrantFault) (after : Leases) → AsksFor m r → IsOwn ip r.name r.addr → Grants table now r.name (asked_in r) result after
      → Serves table now ip m (Some (grant_reply r result)) after
  refuses : (m : MessageValue) (r : Registration) → AsksFor m r → ¬ IsOwn ip r.name r.addr
      → Serves table now ip m (Some (refusal refused_error r)) (leases_at now table.rows)
  refuses_overwrite : (r : Registration) → Serves table now ip (overwrite r) (Some (refusal refused_error r)) (leases_at now table.rows)
  releases : (id : ℕ) (name : NameValue) (kind : Kind) (addr : ℕ) (result : Released) (after : Leases) → IsOwn ip name addr → Releases table now name addr result after
      → Serves table now ip (release id name kind addr) (Some (released id (release_rcode result) name kind addr)) after
  refuses_release : (id : ℕ) (name : NameValue) (kind : Kind) (addr : ℕ) → ¬ IsOwn ip name addr
      → Serves table now ip (release id name kind addr) (Some (released id refused_error name kind addr)) (leases_at now table.rows)
  finds : (id : ℕ) (name : NameValue) (end : ℕ) → IsLeastEnd (leases_at now table.rows name) (Some end)
      → Serves table now ip (query id name) (Some (found_reply id name now end (leases_at now table.rows name))) (leases_at now table.rows)
  finds_none : (id : ℕ) (name : NameValue) → leases_at now table.rows name ≡ []
      → Serves table now ip (query id name) (Some (not_found id name_error (Some name))) (leases_at now table.rows)
  passes_over : (m : MessageValue) → IsForNodes m → Serves table now ip m None (leases_at now table.rows)

-- A registration or refresh of the sender's own would change the leases: only then the server takes memory.
pub record NeedsMemory (table : TableValue) (now ip : ℕ) (m : MessageValue) : Type 0 where
  pub r : Registration
  pub asks : AsksFor m r
  pub own : IsOwn ip r.name r.addr
  pub changes : ChangesLeases table now r.name (asked_in r)

-- ---- how many leases a client may have

-- A client is a 32-bit address. It is full for a name if it has no live lease of it, and as many of other names as it may
-- have.
pub record IsFull (client_rows : Option ℕ) (table : TableValue) (now ip : ℕ) (name : NameValue) : Type 0 where
  pub most : ℕ
  pub most_is : client_rows ≡ Some most
  pub none : HasNone ip (leases_at now table.rows name)
  pub reached : most ≤ count_of now ip table.rows

-- a registration or refresh of the sender's own, for a name for which it is full
pub record IsOverLimit (client_rows : Option ℕ) (table : TableValue) (now ip : ℕ) (m : MessageValue) : Type 0 where
  pub r : Registration
  pub asks : AsksFor m r
  pub own : IsOwn ip r.name r.addr
  pub full : IsFull client_rows table now ip r.name

-- ---- datagrams

-- What contracts see of a server: when it started, the time of the last datagram, its table, and how many live leases a
-- client may have: any number if there is no limit.
pub record ServerValue : Type 0 where
  pub start : ℕ
  pub last : ℕ
  pub table : TableValue
  pub client_rows : Option ℕ

-- A lease that was given before the start may last until then.
abbrev pub speaks_from : ServerValue → ℕ
speaks_from server = server.start + milliseconds server.table.config.longest

-- What the server does with a datagram: nothing before it speaks, nor with octets that spell no message; it turns away a
-- client that is full; else what it does with the message that they spell.
pub data ServesOctets (server : ServerValue) (now ip : ℕ) (octets : List ℕ) : Option MessageValue → Leases → Type 0 where
  is_silent : now < speaks_from server → ServesOctets server now ip octets None (leases_at now server.table.rows)
  is_no_message : ((m : MessageValue) → ¬ Spells octets m) → ServesOctets server now ip octets None (leases_at now server.table.rows)
  turns_away : (m : MessageValue) → speaks_from server ≤ now → Spells octets m → (over : IsOverLimit server.client_rows server.table now ip m)
      → ServesOctets server now ip octets (Some (refusal server_error over.r)) (leases_at now server.table.rows)
  serves : (m : MessageValue) (reply : Option MessageValue) (after : Leases) → speaks_from server ≤ now → Spells octets m → ¬ IsOverLimit server.client_rows server.table now ip m
      → Serves server.table now ip m reply after
      → ServesOctets server now ip octets reply after
