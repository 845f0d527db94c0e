-- Requests that wait for what a machine says, or for a lease's end, and the inquiries that are under way (our profile).
use Rattle.std.specs.Prelude.{◌≡◌, ℕ, ◌+◌, ◌-◌, ◌*◌, ◌/◌, ◌%◌, ◌≤◌, Bool, true, false, not, ◌&&◌, nat_eq, nat_lt, nat_le, if◌then◌else◌, List, [], ◌∷◌, ◌++◌, map, filter, length, Option, Some, None, Contains, All}
use Rattle.std.specs.Option.{option_map}
use Rattle.std.specs.List.{find, flat_map, list_any}
use Rattle.nbt_name.specs.Wire.{NameValue, same_name}
use Rattle.nbt_name.specs.Words.{word}
use Rattle.nbt_name.specs.declared.addr.Addr.{Addr}
use Rattle.nbt_name.specs.declared.addr.Kind.{Kind}
use Rattle.nbt_packet.specs.Message.{nb}
use Rattle.nbt_packet.specs.Text.{answer_octets}
use Rattle.nbt_server.specs.Serving.{seconds_until}
use Rattle.nbt_confirm.specs.declared.inquiry.Inquiry.{Inquiry}
use Rattle.nbt_confirm.specs.declared.inquiry.Way.{Way}
use Rattle.nbt_confirm.specs.declared.request.Awaits.{Awaits}
use Rattle.nbt_confirm.specs.declared.request.Awaits.TheVariants as a
use Rattle.nbt_confirm.specs.declared.request.Request.{Request}
use Rattle.nbt_confirm.specs.declared.outcome.Answer.{Answer}
use Rattle.nbt_confirm.specs.declared.outcome.Answer.TheVariants as said
use Rattle.nbt_confirm.specs.declared.outcome.Outcome.{Outcome}
use Rattle.nbt_confirm.specs.declared.outcome.Outcome.TheVariants as o
use Rattle.nbt_confirm.specs.declared.waits.Pending.{Pending}
use Rattle.nbt_confirm.specs.declared.waits.Served.{Served}
use Rattle.nbt_confirm.specs.declared.waits.Taken.{Taken}
use Rattle.nbt_confirm.specs.declared.waits.Taken.TheVariants as taken
use Rattle.nbt_confirm.specs.Firsts.{without_first}
use Rattle.nbt_confirm.specs.Inquiries.{MachineValue, ResponseValue, IsResponse, inquiry_form, way_of, same_kind, is_answered_by, machine_by}

-- ---- the limits

-- the most requests that wait, in all and of one client
abbrev pub waits_most : ℕ
waits_most = 256

abbrev pub client_most : ℕ
client_most = 32

-- the queries of an inquiry, and the milliseconds between two of them, and after the last
abbrev pub queries : ℕ
queries = 3

abbrev pub gap : ℕ
gap = 250

-- ---- what comes of an answer

-- What is to be done with a request, by what it waits for, and by what the machine that was asked said of its addresses.
abbrev pub outcome_of : Awaits → Answer → Outcome
outcome_of a.Holder said.Listed = o.Further
outcome_of a.Holder said.Unlisted = o.Refuse
outcome_of a.Holder said.Silent = o.AskRequester
outcome_of a.Requester said.Listed = o.AwaitLeaseEnd
outcome_of a.Requester said.Unlisted = o.Refuse
outcome_of a.Requester said.Silent = o.Refuse
outcome_of a.AfterLease said.Listed = o.Grant
outcome_of a.AfterLease answer = o.Nothing
outcome_of a.Sender said.Listed = o.Grant
outcome_of a.Sender answer = o.Nothing
outcome_of a.Source said.Listed = o.GrantSource
outcome_of a.Source answer = o.NotOwn
outcome_of a.Reach said.Listed = o.Reached
outcome_of a.Reach answer = o.Nothing
outcome_of (a.LeaseEnd until) answer = o.Nothing

-- the machine listed the address that the request is for, and the one that sent it
abbrev pub lists : MachineValue → Request → Bool
lists machine r = list_any (λ addr. nat_eq addr r.addr) machine.addrs && list_any (λ addr. nat_eq addr r.from.ip) machine.addrs

abbrev pub answer_of : MachineValue → Request → Answer
answer_of machine r = if lists machine r then said.Listed else said.Unlisted

-- ---- a request that is to wait

-- it waits for an answer, and not for a lease's end
abbrev pub is_asking : Awaits → Bool
is_asking (a.LeaseEnd until) = false
is_asking awaits = true

-- the same sender has sent the same request before
abbrev pub is_same : Request → Request → Bool
is_same r other = nat_eq other.from.ip r.from.ip && nat_eq other.from.port r.from.port && nat_eq other.id r.id && same_name other.name r.name

-- how many requests of a client wait
abbrev pub count_of : (ip : ℕ) → List Request → ℕ
count_of ip requests = length (filter (λ r. nat_eq r.from.ip ip) requests)

-- Whether a request is to wait beside these: a resend isn't, and beyond the limits none is.
abbrev pub taken_as : List Request → Request → Taken
taken_as requests r =
    if list_any (is_same r) requests then taken.Resent else
    if nat_le client_most (count_of r.from.ip requests) then taken.ClientFull else
    if nat_le waits_most (length requests) then taken.Full else taken.Waits

abbrev pub with_taken : Taken → List Request → Request → List Request
with_taken taken.Waits requests r = requests ++ r ∷ []
with_taken other requests r = requests

-- ---- the inquiries under way

-- The requests that wait, and the inquiries, each in the order in which they began.
pub record WaitsValue : Type 0 where
  pub requests : List Request
  pub pending : List Pending

-- an inquiry about this name is under way
abbrev pub is_under_way : List Pending → NameValue → Bool
is_under_way pending name = list_any (λ p. same_name p.inquiry.name name) pending

-- The first request that waits for an answer, of whose name no inquiry is under way: so there is one about a name at a time.
abbrev pub next_to_ask : WaitsValue → Option Request
next_to_ask waits = find (λ r. is_asking r.awaits && not (is_under_way waits.pending r.name)) waits.requests

-- the inquiry of a request
abbrev pub inquiry_of : (id : ℕ) → Request → Inquiry
inquiry_of id r = record { id = id; name = r.name; kind = r.kind; asked = r.asked; local = r.local }

-- after its first query
abbrev pub begun : (now id : ℕ) → Request → Pending
begun now id r = record { inquiry = inquiry_of id r; left = queries - 1; due = now + gap }

-- the inquiry that begins next, if there is room for one
abbrev pub next_begun : (now id : ℕ) → WaitsValue → Option Pending
next_begun now id waits = if nat_le waits_most (length waits.pending) then None else option_map (begun now id) (next_to_ask waits)

abbrev pub with_begun : Option Pending → List Pending → List Pending
with_begun None pending = pending
with_begun (Some p) pending = pending ++ p ∷ []

-- A query goes out on its way, if there is one to send.
abbrev pub query_octets : Option Inquiry → List ℕ
query_octets None = []
query_octets (Some i) = inquiry_form i

abbrev pub way_in : Option Inquiry → Option Way
way_in None = None
way_in (Some i) = Some (way_of i)

abbrev pub inquiry_in : Option Pending → Option Inquiry
inquiry_in None = None
inquiry_in (Some p) = Some p.inquiry

pub record Sends (inquiry : Option Inquiry) (to : Option Way) (octets : List ℕ) : Type 0 where
  pub to_is : to ≡ way_in inquiry
  pub octets_are : octets ≡ query_octets inquiry

-- ---- its other queries, and its end

-- one more of its queries is due, and after that one
abbrev pub is_to_repeat : (now : ℕ) → Pending → Bool
is_to_repeat now p = nat_le p.due now && nat_lt 0 p.left

abbrev pub repeated : (now : ℕ) → Pending → Pending
repeated now p = record p { left = p.left - 1; due = now + gap }

-- none was answered
abbrev pub is_unanswered : (now : ℕ) → Pending → Bool
is_unanswered now p = nat_le p.due now && nat_eq p.left 0

-- an inquiry under way is answered by a response
abbrev pub is_answered : ResponseValue → Pending → Bool
is_answered r p = is_answered_by r p.inquiry

-- What octets make of the inquiries: the one that they answer ends, and the machine is known.
pub data Hears (from : Addr) (octets : List ℕ) (old : List Pending) : Option MachineValue → List Pending → Type 0 where
  answered : (r : ResponseValue) (p : Pending) → IsResponse from octets r → find (is_answered r) old ≡ Some p
      → Hears from octets old (Some (machine_by p.inquiry r)) (without_first (is_answered r) old)
  unasked : (r : ResponseValue) → IsResponse from octets r → find (is_answered r) old ≡ None → Hears from octets old None old
  no_response : ((r : ResponseValue) → ¬ IsResponse from octets r) → Hears from octets old None old

-- ---- the requests that an answer serves, and those that waited for a lease's end

-- it waits for the answer of this address about this name
abbrev pub is_for : NameValue → Kind → (asked : ℕ) → Request → Bool
is_for name kind asked r = is_asking r.awaits && same_name r.name name && same_kind r.kind kind && nat_eq r.asked asked

-- the lease's end for which it waits is there
abbrev pub is_past : (now : ℕ) → Awaits → Bool
is_past now (a.LeaseEnd until) = nat_le until now
is_past now awaits = false

-- a request that was served
abbrev pub served_by : (Request → Answer) → Request → Served
served_by answer r = record { request = r; outcome = outcome_of r.awaits (answer r) }

-- ---- what is due

abbrev pub end_in : Awaits → List ℕ
end_in (a.LeaseEnd until) = until ∷ []
end_in awaits = []

-- when something is due: the queries, and the ends of leases, in milliseconds
abbrev pub dues : WaitsValue → List ℕ
dues waits = map (λ p. p.due) waits.pending ++ flat_map (λ r. end_in r.awaits) waits.requests

abbrev pub IsFirst : List ℕ → Option ℕ → Type 0
IsFirst times None = times ≡ []
IsFirst times (Some first) = Contains times first × All (λ time. first ≤ time) times

-- ---- the request to wait (RFC 1002 section 4.2.16)

-- OPCODE and NM_FLAGS of the request that waits, without R and RCODE
abbrev pub waiting_flags : ℕ → ℕ
waiting_flags flags = flags / 16 % 0x800 * 16

abbrev pub wait_form : Request → (seconds : ℕ) → List ℕ
wait_form r seconds = answer_octets r.id 0xBC00 r.name nb seconds (word (waiting_flags r.flags))

-- what is left of the lease, and five seconds
abbrev pub wait_seconds : (now end : ℕ) → ℕ
wait_seconds now end = seconds_until now end + 5
