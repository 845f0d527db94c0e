-- What is done with a request: what is noted of it, what leaves, and what waits then (our profile).
use Rattle.std.specs.Prelude.{ℕ, if◌then◌else◌, List, [], ◌∷◌, Option, Some, None}
use Rattle.nbt_name.specs.declared.addr.Addr.{Addr}
use Rattle.nbt_packet.specs.Message.{registered}
use Rattle.nbt_packet.specs.Text.{text}
use Rattle.nbt_confirm.specs.declared.inquiry.Way.{Way}
use Rattle.nbt_confirm.specs.declared.request.Request.{Request}
use Rattle.nbt_confirm.specs.declared.waits.Taken.{Taken}
use Rattle.nbt_confirm.specs.declared.waits.Taken.TheVariants as taken
use Rattle.nbt_confirm.specs.Inquiries.{name_port}
use Rattle.nbt_confirm.specs.Waiting.{taken_as}
use Rattle.nbt_waits.specs.declared.asking.Asking.{Asking}
use Rattle.nbt_waits.specs.declared.note.Asked.{Asked}
use Rattle.nbt_waits.specs.declared.note.Asked.TheVariants as came
use Rattle.nbt_waits.specs.declared.note.Note.{Note}
use Rattle.nbt_waits.specs.declared.note.Leaving.{Leaving}
use Rattle.nbt_waits.specs.declared.note.Settled.{Settled}
use Rattle.nbt_waits.specs.Asking.{are_full, claim_of, granting, waiting}

-- ---- what leaves

-- octets to an endpoint, from the server's own end, or its first
pub record Sent : Type 0 where
  pub to : Addr
  pub local : Option Addr
  pub octets : List ℕ

-- to the endpoint that sent a request, from the end at which it came
abbrev pub back : Request → (octets : List ℕ) → Sent
back r octets = record { to = r.from; local = r.local; octets = octets }

-- to the port of the name service
abbrev pub by_way : Way → (octets : List ℕ) → Sent
by_way way octets = record { to = record { ip = way.asked; port = name_port }; local = way.local; octets = octets }

-- the response to a request, for so many seconds
abbrev pub reply : (rcode seconds : ℕ) → Request → List ℕ
reply rcode seconds r = text (registered rcode (record (claim_of r) { ttl = seconds }))

abbrev pub also_sent : Option Way → (octets : List ℕ) → List Sent
also_sent None octets = []
also_sent (Some way) octets = by_way way octets ∷ []

-- the reply that was left, if one was, to all to whom it goes
abbrev pub sent : Option Leaving → (octets : List ℕ) → List Sent
sent None octets = []
sent (Some leaving) octets = record { to = leaving.to; local = leaving.local; octets = octets } ∷ also_sent leaving.also octets

-- ---- what is done

-- what came of a request
abbrev pub note_of : Asked → Request → Note
note_of asked r = record { asked = asked; from = r.from; name = r.name; kind = r.kind; addr = r.addr }

-- What is noted, what leaves, and what there is then.
pub record Done : Type 0 where
  pub note : Option Note
  pub sends : List Sent
  pub asking : Asking

-- what a call did, which left these octets
abbrev pub done_by : Settled → (out : List ℕ) → Asking → Done
done_by settled out asking = record { note = settled.note; sends = sent settled.leaving out; asking = asking }

-- nothing is noted of it, and nothing leaves
abbrev pub quietly : Asking → Done
quietly asking = record { note = None; sends = []; asking = asking }

-- nothing leaves
abbrev pub noted : Asked → Request → Asking → Done
noted asked r asking = record { note = Some (note_of asked r); sends = []; asking = asking }

-- these octets go back
abbrev pub answered : Asked → (octets : List ℕ) → Request → Asking → Done
answered asked octets r asking = record { note = Some (note_of asked r); sends = back r octets ∷ []; asking = asking }

-- the same with a refusal
abbrev pub refused : Asked → (rcode : ℕ) → Request → Asking → Done
refused asked rcode r asking = answered asked (reply rcode 0 r) r asking

-- a resend isn't noted
abbrev pub waiting_note : Taken → Request → Option Note
waiting_note taken.Waits r = Some (note_of (came.Waits r.asked) r)
waiting_note taken.Resent r = None
waiting_note taken.ClientFull r = Some (note_of came.Lost r)
waiting_note taken.Full r = Some (note_of came.Lost r)

-- it waits, unless too many do, or the same one does
abbrev pub waits : Request → Asking → Done
waits r old = record { note = waiting_note (taken_as old.waits.requests r) r; sends = []; asking = waiting r old }

abbrev pub granted_as : Asking → Asked
granted_as old = if are_full old.granted then came.Lost else came.Granted

-- the server has it next, unless too many come to it
abbrev pub hands_on : Request → Asking → Done
hands_on r old = noted (granted_as old) r (granting r old)
