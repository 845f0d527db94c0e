-- A scan over a port and a clock, turn by turn (our profile; RFC 1002 sections 4.2.17 and 4.2.18).
use Rattle.std.specs.Prelude.{◌≡◌, ◌≢◌, ℕ, ◌^◌, Bool, true, false, List, [], ◌∷◌, length, slice_get, slice_index, slice_set, Option, Some, None, Result}
use Rattle.nbt_name.specs.declared.addr.Addr.{Addr}
use Rattle.nbt_port.specs.declared.port.Device.{Device}
use Rattle.nbt_port.specs.declared.port.Route.{Route}
use Rattle.nbt_port.specs.PortCalls.{PortCall, nothing_came, came, sending, route_to, Chain}
use Rattle.nbt_scan.specs.declared.form.Layout.{Layout}
use Rattle.nbt_scan.specs.declared.plan.Plan.{Plan}
use Rattle.nbt_scan.specs.declared.progress.Progress.{Progress}
use Rattle.nbt_scan.specs.declared.progress.Step.{Step}
use Rattle.nbt_scan.specs.declared.progress.Step.TheVariants.{Wait, Ask, Again, Over}
use Rattle.nbt_scan.specs.declared.scan.Scan.{Scan}
use Rattle.nbt_scan.specs.Plans.{IsPlaceOf}
use Rattle.nbt_scan.specs.Progressing.{WasPassed, step_at, past, again, is_over}
use Rattle.nbt_scan.specs.Requests.{request_text}
use Rattle.nbt_scan.specs.Sheets.{Reply, Sheet, TellsIf}
use Rattle.nbt_scan.specs.Statuses.{IsStatus, IsNoStatus}

-- it takes so many turns at most, of which each waits for one datagram: more than come in the time that it has
abbrev pub turns_most : ℕ
turns_most = 2 ^ 40

-- a port, how far the scan has come, and what is told of it
pub record Scanning (P : Type 0) : Type 0 where
  pub port : P
  pub scan : Scan
  pub sheet : Sheet

-- where the address at a place is asked
abbrev pub end_at : Plan → (place : ℕ) → Addr
end_at plan place = record { ip = slice_index plan.ips.items place; port = plan.port }

-- the request to the address at a place, by the id that it has in the list
abbrev pub request_at : (ids : List ℕ) → (place : ℕ) → List ℕ
request_at ids place = request_text (slice_index ids place)

-- What is done at a moment: the request goes to the next address, unless that has replied; or the next pass begins; or nothing. A request that
-- the port fails to send is lost.
pub data Acts {P : Type 0} (does : P → PortCall → P → Type 0) (plan : Plan) (ids : List ℕ) (now : ℕ) (old : Scanning P) : Step → List PortCall → Scanning P → Type 0 where
  asks : (port : P) (result : Result (Unit {0}) Device) → slice_get old.scan.replied old.scan.progress.place ≡ Some false
      → does old.port (sending (route_to (end_at plan old.scan.progress.place)) (request_at ids old.scan.progress.place) result) port
      → Acts does plan ids now old Ask (sending (route_to (end_at plan old.scan.progress.place)) (request_at ids old.scan.progress.place) result ∷ []) (record old { port = port; scan = record old.scan { progress = past now old.scan.progress } })
  passes_over : slice_get old.scan.replied old.scan.progress.place ≡ Some true → Acts does plan ids now old Ask [] (record old { scan = record old.scan { progress = past now old.scan.progress } })
  begins_again : Acts does plan ids now old Again [] (record old { scan = record old.scan { progress = again now old.scan.progress } })
  waits : Acts does plan ids now old Wait [] old
  is_done : Acts does plan ids now old Over [] old

-- What is made of what a receive was: the first reply of each address of the list counts, from the port that was asked, by the id of that
-- address, and not before it was asked.
pub data Hears (plan : Plan) (ids : List ℕ) (progress : Progress) (old : List Bool) : PortCall → Option Reply → List Bool → Type 0 where
  hears_nothing : Hears plan ids progress old nothing_came None old
  hears_other_port : (from : Route) (octets : List ℕ) → from.peer.port ≢ plan.port → Hears plan ids progress old (came from octets) None old
  hears_stranger : (from : Route) (octets : List ℕ) → IsPlaceOf plan.ips.items from.peer.ip None → Hears plan ids progress old (came from octets) None old
  hears_early : (from : Route) (octets : List ℕ) (place : ℕ) → IsPlaceOf plan.ips.items from.peer.ip (Some place) → ¬ WasPassed plan progress place → Hears plan ids progress old (came from octets) None old
  hears_again : (from : Route) (octets : List ℕ) (place : ℕ) → IsPlaceOf plan.ips.items from.peer.ip (Some place) → slice_get old place ≡ Some true → Hears plan ids progress old (came from octets) None old
  hears_other : (from : Route) (octets : List ℕ) (place : ℕ) → IsPlaceOf plan.ips.items from.peer.ip (Some place) → IsNoStatus (slice_index ids place) octets → Hears plan ids progress old (came from octets) None old
  hears_reply : (from : Route) (octets names statistics : List ℕ) (place : ℕ) → from.peer.port ≡ plan.port → IsPlaceOf plan.ips.items from.peer.ip (Some place) → WasPassed plan progress place
      → slice_get old place ≡ Some false → IsStatus (slice_index ids place) octets names statistics
      → Hears plan ids progress old (came from octets) (Some (record { ip = from.peer.ip; names = names; statistics = statistics })) (slice_set old place true)

-- ---- turns

-- the moment of a turn, its calls of the port, and whose reply came, if one did
pub record Turn : Type 0 where
  pub now : ℕ
  pub sending : List PortCall
  pub hearing : PortCall
  pub reply : Option Reply

-- The calls of a turn: what is done at its moment, and one receive, whose reply is told.
pub record Goes {P : Type 0} (does : P → PortCall → P → Type 0) (plan : Plan) (ids : List ℕ) (layout : Layout) (old : Scanning P) (turn : Turn) (new : Scanning P) : Type 0 where
  pub acted : Scanning P
  pub acts : Acts does plan ids turn.now old (step_at plan turn.now old.scan.progress) turn.sending acted
  pub receives : does acted.port turn.hearing new.port
  pub hears : Hears plan ids acted.scan.progress acted.scan.replied turn.hearing turn.reply new.scan.replied
  pub progress_stays : new.scan.progress ≡ acted.scan.progress
  pub tells : TellsIf layout turn.reply acted.sheet new.sheet

-- a clock, and the rest
pub record Timed (P C : Type 0) : Type 0 where
  pub clock : C
  pub here : Scanning P

-- The clock is read, the scan isn't over at that moment, and the calls follow.
pub record Takes {P C : Type 0} (does : P → PortCall → P → Type 0) (tells : C → ℕ → C → Type 0) (plan : Plan) (ids : List ℕ) (layout : Layout) (old : Timed P C) (turn : Turn) (new : Timed P C) : Type 0 where
  pub told : tells old.clock turn.now new.clock
  pub goes_on : is_over plan turn.now old.here.scan ≡ false
  pub goes : Goes does plan ids layout old.here turn new.here

-- ---- the whole

-- How it ends, after a number of turns: at a moment at which it is over, or with all its turns.
pub data Ends {P C : Type 0} (tells : C → ℕ → C → Type 0) (plan : Plan) (count : ℕ) (old : Timed P C) : Timed P C → Type 0 where
  ends_over : (now : ℕ) (clock : C) → tells old.clock now clock → is_over plan now old.here.scan ≡ true → Ends tells plan count old (record old { clock = clock })
  ends_spent : count ≡ turns_most → Ends tells plan count old old

pub record Scans {P C : Type 0} (does : P → PortCall → P → Type 0) (tells : C → ℕ → C → Type 0) (plan : Plan) (ids : List ℕ) (layout : Layout) (old new : Timed P C) : Type 0 where
  pub turns : List Turn
  pub mid : Timed P C
  pub takes : Chain (Takes does tells plan ids layout) old turns mid
  pub ends : Ends tells plan (length turns) mid new
