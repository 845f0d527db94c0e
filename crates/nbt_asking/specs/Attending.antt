-- What is done between two turns of a server that asks, one thing after the other (our profile). The server's table is looked at, and stays
-- as it is: so leases begin, are renewed and end by the server's rules alone, in its turns.
use Rattle.std.specs.Prelude.{◌≡◌, ◌≢◌, ◌⊎◌, ℕ, ◌≤◌, max, Bool, true, false, if◌then◌else◌, List, [], ◌∷◌, ◌++◌, map, length, Option, Some, None}
use Rattle.std.specs.List.{find}
use Rattle.nbt_name.specs.declared.addr.Kind.TheVariants.{Unique}
use Rattle.nbt_packet.specs.declared.message.Registration.{Registration}
use Rattle.nbt_packet.specs.Message.{IsRequest, registered}
use Rattle.nbt_packet.specs.Text.{text}
use Rattle.nbt_lease.specs.Lease.{TableValue}
use Rattle.nbt_port.specs.Memory.{DatagramValue}
use Rattle.nbt_port.specs.PortCalls.{PortCall, sent, send_failed, Chain}
use Rattle.nbt_log.specs.declared.entry.Entry.{Entry}
use Rattle.nbt_server.specs.Serving.{ServerValue, active_error}
use Rattle.nbt_server.specs.declared.outcome.Claim.{Claim}
use Rattle.nbt_server.specs.declared.outcome.Outcome.{Outcome}
use Rattle.nbt_server.specs.declared.outcome.Outcome.TheVariants.{Released, Refused}
use Rattle.nbt_server.specs.declared.outcome.Refusal.TheVariants.{Active}
use Rattle.nbt_confirm.specs.declared.inquiry.Way.{Way}
use Rattle.nbt_confirm.specs.declared.inquiry.Inquiry.{Inquiry}
use Rattle.nbt_confirm.specs.declared.request.Came.{Came}
use Rattle.nbt_confirm.specs.declared.request.Request.{Request}
use Rattle.nbt_confirm.specs.declared.waits.Pending.{Pending}
use Rattle.nbt_confirm.specs.Deciding.{Claims, IsHeldBack}
use Rattle.nbt_confirm.specs.Firsts.{with_first, without_first}
use Rattle.nbt_confirm.specs.Further.{kept_at}
use Rattle.nbt_confirm.specs.Inquiries.{MachineValue, inquiry_form, way_of}
use Rattle.nbt_confirm.specs.Waiting.{Hears, is_to_repeat, is_unanswered, next_begun, next_to_ask, repeated, waits_most}
use Rattle.nbt_waits.specs.declared.asking.Asking.{Asking}
use Rattle.nbt_waits.specs.declared.note.Note.{Note}
use Rattle.nbt_waits.specs.declared.tally.AskTally.{AskTally}
use Rattle.nbt_waits.specs.Doing.{Done, Sent, by_way}
use Rattle.nbt_waits.specs.Lapsing.{Follows, Wakes, passes_on}
use Rattle.nbt_waits.specs.Looking.{IsLookedAt, LooksFirst, nothing, aside, back}
use Rattle.nbt_waits.specs.Settling.{Serves, ServesSilence, holds_back}
use Rattle.nbt_waits.specs.Tally.{counted}
use Rattle.nbt_asking.specs.Desk.{route_of}
use Rattle.nbt_asking.specs.Port.{AskingPortValue}
use Rattle.nbt_asking.specs.Steps.{AsMany, NoneIsLeft}

-- how many things of a kind are done between two turns at most
abbrev pub most : ℕ
most = 16

-- ---- what leaves

abbrev pub datagram : Sent → DatagramValue
datagram s = record { route = record { peer = s.to; local = s.local }; octets = s.octets }

abbrev pub datagrams : List Sent → List DatagramValue
datagrams sends = map datagram sends

-- a query on its way
abbrev pub query : Way → (octets : List ℕ) → DatagramValue
query way octets = datagram (by_way way octets)

-- a datagram is sent; where that fails it is lost
abbrev pub TriesToSend : {P : Type 0} → (P → PortCall → P → Type 0) → P → DatagramValue → P → Type 0
TriesToSend does old d new = does old (sent d.route d.octets) new ⊎ does old (send_failed d.route d.octets) new

-- ---- what changes

abbrev pub with_asking : {P I : Type 0} → Asking → AskingPortValue P I → AskingPortValue P I
with_asking asking old = record old { desk = record old.desk { asking = asking } }

abbrev pub with_pending : List Pending → Asking → Asking
with_pending pending old = record old { waits = record old.waits { pending = pending } }

-- what is noted of a request is counted
abbrev pub tallied : Option Note → AskTally → AskTally
tallied None old = old
tallied (Some note) old = counted note.asked old

-- such a thing is done, all that leaves of it is sent, and what is noted of it is counted
pub record DoesSo {P I : Type 0} (does : P → PortCall → P → Type 0) (what : Asking → Done → Type 0) (old new : AskingPortValue P I) : Type 0 where
  pub done : Done
  pub did : what old.desk.asking done
  pub port_did : Chain (TriesToSend does) old.port (datagrams done.sends) new.port
  pub new_is : new ≡ record (with_asking done.asking old) { port = new.port; tally = tallied done.note old.tally }

-- such things are done as long as there are any, and so many at most
abbrev pub DoesAll : {P I : Type 0} → (most : ℕ) → (P → PortCall → P → Type 0) → (Asking → Done → Type 0) → AskingPortValue P I → AskingPortValue P I → Type 0
DoesAll most does what = AsMany most (DoesSo does what) (NoneIsLeft (DoesSo does what))

-- ---- what was set aside

-- A claim that came so is looked at: it waits for what its sender says, or it comes to the server.
pub data LooksAtClaim {P I : Type 0} (table : TableValue) (now : ℕ) (c : Came) (octets : List ℕ) (old : AskingPortValue P I) : AskingPortValue P I → Type 0 where
  waits : (done : Done) → LooksFirst table now c octets old.desk.asking done → LooksAtClaim table now c octets old (record old { desk = record old.desk { aside = nothing; asking = done.asking }; tally = tallied done.note old.tally })
  comes_back : ((done : Done) → ¬ LooksFirst table now c octets old.desk.asking done) → LooksAtClaim table now c octets old (record old { desk = record old.desk { aside = back c octets } })

-- a response is looked at, after which these inquiries are under way
abbrev pub heard : {P I : Type 0} → List Pending → AskingPortValue P I → AskingPortValue P I
heard pending old = record old { desk = record old.desk { aside = nothing; asking = with_pending pending old.desk.asking } }

-- A response that came so is heard: it answers an inquiry, and the requests are served that waited for that; or it comes to nobody.
pub data LooksAtResponse {P I : Type 0} (does : P → PortCall → P → Type 0) (table : TableValue) (now : ℕ) (c : Came) (octets : List ℕ) (old : AskingPortValue P I) : AskingPortValue P I → Type 0 where
  answers : (machine : MachineValue) (pending : List Pending) (new : AskingPortValue P I) → Hears c.from octets old.desk.asking.waits.pending (Some machine) pending
      → DoesAll waits_most does (Serves table now machine) (heard pending old) new → LooksAtResponse does table now c octets old new
  answers_none : (pending : List Pending) → Hears c.from octets old.desk.asking.waits.pending None pending → LooksAtResponse does table now c octets old (heard pending old)

-- What was set aside is looked at, if something was: a request as a claim, all else as a response.
pub data LooksAside {P I : Type 0} (does : P → PortCall → P → Type 0) (table : TableValue) (now : ℕ) (old : AskingPortValue P I) : AskingPortValue P I → Type 0 where
  nothing_there : ¬ IsLookedAt old.desk.aside → LooksAside does table now old old
  at_claim : (c : Came) (octets : List ℕ) (new : AskingPortValue P I) → old.desk.aside ≡ aside c octets → IsRequest c.flags → LooksAtClaim table now c octets old new → LooksAside does table now old new
  at_response : (c : Came) (octets : List ℕ) (new : AskingPortValue P I) → old.desk.aside ≡ aside c octets → ¬ IsRequest c.flags → LooksAtResponse does table now c octets old new → LooksAside does table now old new

-- ---- what the server did in its turn

-- it refused something, since another has the name
abbrev pub IsActive : Outcome → Type 0
IsActive outcome = (claim : Claim) × (holder : ℕ) × (outcome ≡ Refused claim (Active holder))

-- it released no unique name
abbrev pub ReleasesNone : Outcome → Type 0
ReleasesNone outcome = (claim : Claim) → outcome ≡ Released claim → claim.kind ≢ Unique

-- the negative response to a claim that came so, since another has the name
abbrev pub refusal : Came → Registration → DatagramValue
refusal c r = record { route = route_of c; octets = text (registered active_error (record r { ttl = 0 })) }

-- The refusal leaves that the port held back: that of a unique name.
pub data Refuses {P I : Type 0} (does : P → PortCall → P → Type 0) (c : Came) (octets : List ℕ) (old : AskingPortValue P I) : AskingPortValue P I → Type 0 where
  leaves : (r : Registration) (port : P) → Claims octets r → r.kind ≡ Unique → TriesToSend does old.port (refusal c r) port → Refuses does c octets old (record old { port = port })
  left_before : ((r : Registration) → Claims octets r → r.kind ≢ Unique) → Refuses does c octets old old

-- this is done
abbrev pub exactly : (Asking → Done) → Asking → Done → Type 0
exactly does old done = done ≡ does old

-- What is done after the server did this with octets that came so, and whether that is held back, since the request waits: then nothing is
-- refused yet.
pub data LooksAtOutcome {P I : Type 0} (does : P → PortCall → P → Type 0) (table : TableValue) (now : ℕ) (c : Came) (octets : List ℕ) (outcome : Outcome) (old : AskingPortValue P I) : (is_held : Bool) → AskingPortValue P I → Type 0 where
  lets_be : ¬ IsActive outcome → ReleasesNone outcome → LooksAtOutcome does table now c octets outcome old false old
  passes : (claim : Claim) (new : AskingPortValue P I) → outcome ≡ Released claim → claim.kind ≡ Unique → DoesSo does (exactly (passes_on now claim.name claim.addr)) old new
      → LooksAtOutcome does table now c octets outcome old false new
  holds : (r : Request) (new : AskingPortValue P I) → IsHeldBack table now c octets outcome r → DoesSo does (exactly (holds_back table now r)) old new
      → LooksAtOutcome does table now c octets outcome old true new
  refuses : (new : AskingPortValue P I) → IsActive outcome → ((r : Request) → ¬ IsHeldBack table now c octets outcome r) → Refuses does c octets old new
      → LooksAtOutcome does table now c octets outcome old false new

-- what the server did with the datagram that it was handed last, if it did something, and what of it the log is to have
abbrev pub LooksAtTurn : {P I : Type 0} → (P → PortCall → P → Type 0) → TableValue → (now : ℕ) → (octets : List ℕ) → (entry logged : Option Entry) → (old new : AskingPortValue P I) → Type 0
LooksAtTurn does table now octets None logged old new = (logged ≡ None) × (new ≡ old)
LooksAtTurn does table now octets (Some entry) logged old new =
    (is_held : Bool) × LooksAtOutcome does table now (record old.desk.last { from = entry.from }) octets entry.outcome old is_held new × (logged ≡ (if is_held then None else Some entry))

-- ---- what is due

-- the first inquiry that nobody answered ends, and the requests are served that waited for it
pub record GivesUp {P I : Type 0} (does : P → PortCall → P → Type 0) (table : TableValue) (now : ℕ) (old new : AskingPortValue P I) : Type 0 where
  pub p : Pending
  pub is_first : find (is_unanswered now) old.desk.asking.waits.pending ≡ Some p
  pub served : DoesAll waits_most does (ServesSilence table now p.inquiry)
      (with_asking (with_pending (without_first (is_unanswered now) old.desk.asking.waits.pending) old.desk.asking) old) new

-- further addresses go whose own refreshes are over
abbrev pub swept : {P I : Type 0} → (now : ℕ) → AskingPortValue P I → AskingPortValue P I
swept now old = with_asking (record old.desk.asking { further = kept_at now old.desk.asking.further }) old

-- a query of an inquiry leaves
abbrev pub asks : Inquiry → List Pending → Asking → Done
asks i pending old = record { note = None; sends = by_way (way_of i) (inquiry_form i) ∷ []; asking = with_pending pending old }

-- one more query, of the first inquiry of which one is due
pub record Repeats (now : ℕ) (old : Asking) (done : Done) : Type 0 where
  pub p : Pending
  pub is_first : find (is_to_repeat now) old.waits.pending ≡ Some p
  pub done_is : done ≡ asks p.inquiry (with_first (is_to_repeat now) (repeated now) old.waits.pending) old

-- the inquiry of this id begins
pub record BeginsBy (now id : ℕ) (old : Asking) (done : Done) : Type 0 where
  pub p : Pending
  pub is_next : next_begun now id old.waits ≡ Some p
  pub done_is : done ≡ asks p.inquiry (old.waits.pending ++ p ∷ []) old

-- ids were drawn
abbrev pub with_ids : {P I : Type 0} → I → AskingPortValue P I → AskingPortValue P I
with_ids ids old = record old { ids = ids }

-- the next inquiry begins, with an id that was drawn
pub record Begins {P I : Type 0} (does : P → PortCall → P → Type 0) (draws : I → Option ℕ → I → Type 0) (now : ℕ) (old new : AskingPortValue P I) : Type 0 where
  pub id : ℕ
  pub ids : I
  pub drew : draws old.ids (Some id) ids
  pub began : DoesSo does (BeginsBy now id) (with_ids ids old) new

-- None begins: nobody is to be asked; or no id was drawn, or so many are under way.
pub data BeginsNone {P I : Type 0} (draws : I → Option ℕ → I → Type 0) (old : AskingPortValue P I) : AskingPortValue P I → Type 0 where
  nobody : next_to_ask old.desk.asking.waits ≡ None → BeginsNone draws old old
  no_id : (r : Request) (ids : I) → next_to_ask old.desk.asking.waits ≡ Some r → draws old.ids None ids → BeginsNone draws old (with_ids ids old)
  no_room : (r : Request) (id : ℕ) (ids : I) → next_to_ask old.desk.asking.waits ≡ Some r → draws old.ids (Some id) ids → waits_most ≤ length old.desk.asking.waits.pending
      → BeginsNone draws old (with_ids ids old)

-- ---- all of it

abbrev pub at_time : {P I : Type 0} → (now : ℕ) → AskingPortValue P I → AskingPortValue P I
at_time now old = record old { desk = record old.desk { at = now } }

-- All that is done at a time, in this order.
pub record AttendsAt {P I : Type 0} (does : P → PortCall → P → Type 0) (draws : I → Option ℕ → I → Type 0) (table : TableValue) (now : ℕ) (octets : List ℕ) (entry logged : Option Entry) (old new : AskingPortValue P I) : Type 0 where
  pub looked : AskingPortValue P I
  pub turned : AskingPortValue P I
  pub given_up : AskingPortValue P I
  pub woken : AskingPortValue P I
  pub followed : AskingPortValue P I
  pub repeated : AskingPortValue P I
  pub looks_aside : LooksAside does table now (at_time now old) looked
  pub looks_at_turn : LooksAtTurn does table now octets entry logged looked turned
  pub gives_up : AsMany most (GivesUp does table now) (NoneIsLeft (GivesUp does table now)) turned given_up
  pub wakes : DoesAll most does (Wakes table now) (swept now given_up) woken
  pub follows : DoesAll most does (Follows table now) woken followed
  pub repeats : DoesAll most does (Repeats now) followed repeated
  pub begins : AsMany most (Begins does draws now) (BeginsNone draws) repeated new

-- Between two turns, at this moment, or at the server's last where that is later.
abbrev pub Attends : {P I : Type 0} → (P → PortCall → P → Type 0) → (I → Option ℕ → I → Type 0) → ServerValue → (at : ℕ) → (octets : List ℕ) → (entry logged : Option Entry) → (old new : AskingPortValue P I) → Type 0
Attends does draws server at octets entry logged old new = AttendsAt does draws server.table (max at server.last) octets entry logged old new
