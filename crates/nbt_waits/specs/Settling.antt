-- What is done with a request that waited, by what came of the answer (our profile). The server's table is looked at, and stays as it is.
use Rattle.std.specs.Prelude.{◌≡◌, ℕ, ◌+◌, ◌-◌, min, nat_eq, nat_le, ◌&&◌, not, Bool, if◌then◌else◌, List, [], ◌∷◌, Option, Some, None}
use Rattle.std.specs.List.{find, list_any}
use Rattle.nbt_name.specs.Wire.{NameValue}
use Rattle.nbt_lease.specs.Config.{granted, milliseconds}
use Rattle.nbt_lease.specs.Lease.{TableValue, count_of}
use Rattle.nbt_lease.specs.declared.lease.Lease.{Lease}
use Rattle.nbt_server.specs.Serving.{active_error, refused_error, seconds_until, server_error}
use Rattle.nbt_confirm.specs.declared.further.Further.{Further}
use Rattle.nbt_confirm.specs.declared.further.Put.{Put}
use Rattle.nbt_confirm.specs.declared.further.Put.TheVariants as put
use Rattle.nbt_confirm.specs.declared.inquiry.Inquiry.{Inquiry}
use Rattle.nbt_confirm.specs.declared.outcome.Answer.TheVariants.{Silent}
use Rattle.nbt_confirm.specs.declared.outcome.Outcome.{Outcome}
use Rattle.nbt_confirm.specs.declared.outcome.Outcome.TheVariants as o
use Rattle.nbt_confirm.specs.declared.request.Awaits.TheVariants as a
use Rattle.nbt_confirm.specs.declared.request.Request.{Request}
use Rattle.nbt_confirm.specs.Firsts.{with_first}
use Rattle.nbt_confirm.specs.Further as rows
use Rattle.nbt_confirm.specs.Further.{is_at, is_confirmed, kept_at, put_as, reached_row, renewed_row, with_put}
use Rattle.nbt_confirm.specs.Inquiries.{ConfirmedValue, MachineValue}
use Rattle.nbt_confirm.specs.Waiting.{answer_of, is_for, outcome_of, wait_form, wait_seconds}
use Rattle.nbt_waits.specs.declared.asking.Asking.{Asking}
use Rattle.nbt_waits.specs.declared.note.Asked.TheVariants as came
use Rattle.nbt_waits.specs.Asking.{asking, end_by, lease_at, waiting, without_waiting}
use Rattle.nbt_waits.specs.Doing.{Done, answered, back, by_way, hands_on, note_of, noted, refused, reply, waits}

-- ---- a further address

-- until when a request lasts
abbrev pub until_of : TableValue → (now ttl : ℕ) → ℕ
until_of table now ttl = now + milliseconds (granted table.config.longest ttl)

-- its address has answered itself
abbrev pub is_reached : List Further → Request → Bool
is_reached further r = list_any (λ row. is_at r.name r.addr row && row.reached) further

-- The request of a further address has a positive reply, for so many seconds. An address that has never answered is asked itself, since it isn't
-- listed before it has answered; and the reply goes to the holder's address too, since it may not come to its own.
abbrev pub accepts : (seconds : ℕ) → Request → Asking → Done
accepts seconds r old = if is_reached old.further r
    then answered (came.Confirmed seconds) (reply 0 seconds r) r old
    else record {
      note = Some (note_of (came.Confirmed seconds) r);
      sends = back r (reply 0 seconds r) ∷ by_way (record { asked = r.asked; local = r.local }) (reply 0 seconds r) ∷ [];
      asking = waiting (asking a.Reach r.addr r) old;
    }

-- it isn't a further address of the name yet, and its client has as many rows as it may have, leases and further addresses together
abbrev pub is_full : TableValue → (now : ℕ) → NameValue → (addr : ℕ) → Asking → Bool
is_full table now name addr old = not (list_any (is_at name addr) old.further) && nat_le (old.rows_per_client - rows.count_of now addr old.further) (count_of now addr table.rows)

-- What was put is accepted; what had no room is refused with SRV_ERR.
abbrev pub accepts_put : Put → (seconds : ℕ) → Request → Asking → Done
accepts_put put.Begun seconds r new = accepts seconds r new
accepts_put put.Renewed seconds r new = accepts seconds r new
accepts_put put.NameFull seconds r new = refused came.Full server_error r new
accepts_put put.Full seconds r new = refused came.Full server_error r new

abbrev pub puts : (now until end : ℕ) → Request → ConfirmedValue → Asking → Done
puts now until end r c old = accepts_put (put_as (kept_at now old.further) c) (seconds_until now (min until end)) r
    (record old { further = with_put (put_as (kept_at now old.further) c) (kept_at now old.further) c until end })

abbrev pub puts_until : Option ℕ → TableValue → (now : ℕ) → Request → ConfirmedValue → Asking → Done
puts_until None table now r c old = hands_on r old
puts_until (Some end) table now r c old = if is_full table now r.name r.addr old then refused came.Full server_error r old else puts now (until_of table now r.ttl) end r c old

-- The holder's machine listed the request's address: it is put among the further addresses while the holder has its lease. Where that is over, or
-- it is the holder's address itself, the server has the request.
abbrev pub confirms : TableValue → (now : ℕ) → Request → Option ConfirmedValue → Asking → Done
confirms table now r None old = hands_on r old
confirms table now r (Some c) old = puts_until (end_by c.holder (lease_at table now c.name)) table now r c old

-- ---- a request that was served

-- who has the name: the one of its lease, or the one that was asked
abbrev pub holder_by : Option Lease → Request → ℕ
holder_by None r = r.asked
holder_by (Some lease) r = lease.addr

-- The requester is told once to wait for the lease's end. Where that is over, the server has the request.
abbrev pub tells_to_wait : Option Lease → (now : ℕ) → Request → Asking → Done
tells_to_wait None now r old = hands_on r old
tells_to_wait (Some lease) now r old =
    answered (came.Told (wait_seconds now lease.end)) (wait_form r (wait_seconds now lease.end)) r (waiting (asking (a.LeaseEnd lease.end) r.asked r) old)

-- What is done with it, a line for each outcome; `c` is the further address that its address was confirmed to be, if it was.
abbrev pub settles : TableValue → (now : ℕ) → Outcome → Request → (c : Option ConfirmedValue) → Asking → Done
settles table now o.Further r c old = confirms table now r c old
settles table now o.Refuse r c old = refused (came.Refused (holder_by (lease_at table now r.name) r)) active_error r old
settles table now o.AskRequester r c old = waits (asking a.Requester r.from.ip r) old
settles table now o.AwaitLeaseEnd r c old = tells_to_wait (lease_at table now r.name) now r old
settles table now o.Grant r c old = hands_on r old
settles table now o.GrantSource r c old = hands_on (record r { addr = r.from.ip }) old
settles table now o.NotOwn r c old = refused came.NotOwn refused_error r old
settles table now o.Reached r c old = noted came.Reached r (record old { further = with_first (is_at r.name r.addr) reached_row old.further })
settles table now o.Nothing r c old = noted came.Unanswered r old

-- ---- the next one

-- The first request for which this holds waits no longer, and this is done with it.
pub record TakesOne (test : Request → Bool) (does : Request → Asking → Done) (old : Asking) (done : Done) : Type 0 where
  pub request : Request
  pub is_first : find test old.waits.requests ≡ Some request
  pub done_is : done ≡ does request (without_waiting test old)

-- the further address of a machine that this is, if it listed it and was asked at another
abbrev pub further_of : MachineValue → (addr : ℕ) → Option ConfirmedValue
further_of machine addr = if list_any (λ other. nat_eq other addr) machine.addrs && not (nat_eq addr machine.asked)
    then Some (record { name = machine.name; holder = machine.asked; addr = addr }) else None

-- one that waited for what this machine said
abbrev pub waits_for : MachineValue → Request → Bool
waits_for machine = is_for machine.name machine.kind machine.asked

abbrev pub Serves : TableValue → (now : ℕ) → MachineValue → Asking → Done → Type 0
Serves table now machine = TakesOne (waits_for machine) (λ r. settles table now (outcome_of r.awaits (answer_of machine r)) r (further_of machine r.addr))

-- one that waited for what nobody said
abbrev pub waited_for : Inquiry → Request → Bool
waited_for i = is_for i.name i.kind i.asked

abbrev pub ServesSilence : TableValue → (now : ℕ) → Inquiry → Asking → Done → Type 0
ServesSilence table now i = TakesOne (waited_for i) (λ r. settles table now (outcome_of r.awaits Silent) r None)

-- ---- a request that the server refused

-- a further address is renewed, no longer than the holder's lease
abbrev pub renews : (now until end : ℕ) → Request → Asking → Done
renews now until end r old = accepts (seconds_until now (min until end)) r (record old { further = with_first (is_at r.name r.addr) (renewed_row r.asked until end) old.further })

abbrev pub renews_until : Option ℕ → TableValue → (now : ℕ) → Request → Asking → Done
renews_until None table now r old = waits r old
renews_until (Some end) table now r old = renews now (until_of table now r.ttl) end r old

-- The lease of the address `r.asked` stood in its way. A further address of that machine is renewed; any other waits for what that machine says.
abbrev pub holds_back : TableValue → (now : ℕ) → Request → Asking → Done
holds_back table now r old = if list_any (λ row. is_confirmed now r.name r.asked row && nat_eq row.addr r.addr) old.further
    then renews_until (end_by r.asked (lease_at table now r.name)) table now r old else waits r old
