-- What a name server did, by the rule that it followed: our profile.
use Rattle.std.specs.Prelude.{◌≡◌, ℕ, nat_eq, Bool, true, false, if◌then◌else◌, List, [], ◌∷◌, Option, Some, Ok, Err}
use Rattle.nbt_name.specs.Wire.{NameValue}
use Rattle.nbt_packet.specs.Message.{MessageValue}
use Rattle.nbt_packet.specs.Spelling.{AreWritten, name_in}
use Rattle.nbt_lease.specs.declared.fault.GrantFault.TheVariants as faults
use Rattle.nbt_server.specs.declared.outcome.Claim.{Claim}
use Rattle.nbt_server.specs.declared.outcome.Refusal.{Refusal}
use Rattle.nbt_server.specs.declared.outcome.Refusal.TheVariants as why
use Rattle.nbt_server.specs.declared.outcome.Outcome.{Outcome}
use Rattle.nbt_server.specs.declared.outcome.Outcome.TheVariants as o
use Rattle.nbt_server.specs.Serving.{Kind, Registration, Spells, GrantFault, Grant, Lease, Released, Gone, NoLease, OfOthers, Leases, TableValue, leases_at, IsForNodes, server_error, refused_error, active_error, Serves, registers, refuses, refuses_overwrite, releases, refuses_release, finds, finds_none, passes_over, refusal, IsOverLimit, ServerValue, ServesOctets, is_silent, is_no_message, turns_away, serves}

-- ---- refusals

abbrev pub rcode_of : Refusal → ℕ
rcode_of why.NotOwn = refused_error
rcode_of why.Star = refused_error
rcode_of why.Overwrite = refused_error
rcode_of (why.Active holder) = active_error
rcode_of why.TableFull = server_error
rcode_of why.GroupFull = server_error
rcode_of why.ClientFull = server_error

-- a request that isn't the sender's own: of another's address, else of a name that begins with `*`
abbrev pub not_own : (ip addr : ℕ) → Refusal
not_own ip addr = if nat_eq addr ip then why.Star else why.NotOwn

-- the address of the first lease
abbrev pub holder : List Lease → ℕ
holder [] = 0
holder (lease ∷ leases) = lease.addr

-- why a grant is refused to a name that has these leases
abbrev pub refusal_by : List Lease → GrantFault → Refusal
refusal_by leases faults.Active = why.Active (holder leases)
refusal_by leases faults.GroupFull = why.GroupFull
refusal_by leases fault = why.TableFull

-- ---- a message

abbrev pub claim : NameValue → Kind → ℕ → Claim
claim name kind addr = record { name = name; kind = kind; addr = addr }

abbrev pub claim_in : Registration → Claim
claim_in r = claim r.name r.kind r.addr

abbrev pub grant_outcome : Claim → Grant → Outcome
grant_outcome c grant = if grant.renewed then o.Renewed c grant.seconds else o.Granted c grant.seconds

abbrev pub release_outcome : List Lease → Claim → Released → Outcome
release_outcome leases c Gone = o.Released c
release_outcome leases c NoLease = o.NotLeased c
release_outcome leases c OfOthers = o.NotReleased c (why.Active (holder leases))

-- What the server did with a message, a line for each rule.
abbrev pub done_by : {table : TableValue} {now ip : ℕ} {m : MessageValue} {reply : Option MessageValue} {after : Leases} → Serves table now ip m reply after → Outcome
done_by (registers m r (Ok grant) after asks own rule) = grant_outcome (claim_in r) grant
done_by {table} {now} (registers m r (Err fault) after asks own rule) = o.Refused (claim_in r) (refusal_by (leases_at now table.rows r.name) fault)
done_by {ip = ip} (refuses m r asks not) = o.Refused (claim_in r) (not_own ip r.addr)
done_by (refuses_overwrite r) = o.Refused (claim_in r) why.Overwrite
done_by {table} {now} (releases id name kind addr result after own rule) = release_outcome (leases_at now table.rows name) (claim name kind addr) result
done_by {ip = ip} (refuses_release id name kind addr not) = o.NotReleased (claim name kind addr) (not_own ip addr)
done_by (finds id name end least) = o.Found name
done_by (finds_none id name none) = o.NotFound name
done_by (passes_over m nodes) = o.ForNodes

-- What it did with a message, with the written form of its reply.
abbrev pub Does : (table : TableValue) → (now ip : ℕ) → MessageValue → Outcome → (out : List ℕ) → (after : Leases) → Type 0
Does table now ip m outcome out after = (reply : Option MessageValue) × (does : Serves table now ip m reply after) × (outcome ≡ done_by does) × AreWritten reply out

-- what it did with a message of a client that is full for it
abbrev pub turned_away : Registration → Outcome
turned_away r = o.Refused (claim_in r) why.ClientFull

-- The same, where a client may have so many leases: it turns the client away, or does what the rules say.
pub data DoesWithin (client_rows : Option ℕ) (table : TableValue) (now ip : ℕ) (m : MessageValue) (outcome : Outcome) (out : List ℕ) (after : Leases) : Type 0 where
  by_limit : (over : IsOverLimit client_rows table now ip m) → outcome ≡ turned_away over.r → AreWritten (Some (refusal server_error over.r)) out → after ≡ leases_at now table.rows
      → DoesWithin client_rows table now ip m outcome out after
  by_rule : ¬ IsOverLimit client_rows table now ip m → Does table now ip m outcome out after → DoesWithin client_rows table now ip m outcome out after

-- ---- a datagram

abbrev pub has_reply : Outcome → Bool
has_reply (o.Silent name) = false
has_reply o.ForNodes = false
has_reply o.NoMessage = false
has_reply outcome = true

-- what it did with octets while it is silent
pub data IsUnanswered (octets : List ℕ) : Outcome → Type 0 where
  no_message : ((m : MessageValue) → ¬ Spells octets m) → IsUnanswered octets o.NoMessage
  for_nodes : (m : MessageValue) → Spells octets m → IsForNodes m → IsUnanswered octets o.ForNodes
  request : (m : MessageValue) (name : NameValue) → Spells octets m → ¬ IsForNodes m → name_in m ≡ Some name → IsUnanswered octets (o.Silent name)

-- What it did with octets.
abbrev pub IsDone : {server : ServerValue} {now ip : ℕ} {octets : List ℕ} {reply : Option MessageValue} {after : Leases} → ServesOctets server now ip octets reply after → Outcome → Type 0
IsDone {octets = octets} (is_silent early) outcome = IsUnanswered octets outcome
IsDone (is_no_message none) outcome = outcome ≡ o.NoMessage
IsDone (turns_away m speaks spelled over) outcome = outcome ≡ turned_away over.r
IsDone (serves m reply after speaks spelled room does) outcome = outcome ≡ done_by does
