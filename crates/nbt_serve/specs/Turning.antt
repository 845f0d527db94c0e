-- One turn of a server that keeps its leases (our profile).
use Rattle.std.specs.Prelude.{◌≡◌, ℕ, ◌+◌, nat_eq, nat_le, nat_lt, Bool, true, false, not, ◌||◌, ◌&&◌, List, [], ◌∷◌, ◌++◌, length, map, filter, Option, Some, None, is_some, IfSome}
use Rattle.std.specs.List.{flat_map}
use Rattle.std.specs.Option.{option_to_list}
use Rattle.nbt_name.specs.Wire.{NameValue}
use Rattle.nbt_lease.specs.Lease.{Leases}
use Rattle.nbt_log.specs.declared.entry.Entry.{Entry}
use Rattle.nbt_packet.specs.Message.{MessageValue, found, not_found}
use Rattle.nbt_packet.specs.Spelling.{name_in}
use Rattle.nbt_packet.specs.Text.{text}
use Rattle.nbt_port.specs.declared.port.Route.{Route}
use Rattle.nbt_port.specs.PortCalls.{PortCall, nothing_came, came, receive_failed, send_failed, Chain}
use Rattle.nbt_server.specs.Serving.{ServerValue}
use Rattle.nbt_store.specs.declared.change.Change.{Change}
use Rattle.nbt_store.specs.declared.change.Change.TheVariants.{Reached}
use Rattle.nbt_store.specs.declared.room.Room.{Room}
use Rattle.nbt_store.specs.Calls.{StoreCall, appended, append_failed, sync_failed}
use Rattle.nbt_store.specs.Changes.{at_of, Stands}
use Rattle.nbt_serve.specs.Serving.{Turn, is_empty, is_taken, is_lost, moments_in, Turns, IsLogged}
use Rattle.nbt_serve.specs.Changing.{IsKept, after_any, changed_name, changes_leases}
use Rattle.nbt_serve.specs.Devices.{DeviceCall, on_port, on_store, Devices, DeviceDoes}
use Rattle.nbt_serve.specs.Sharing.{ShareValue, SharesBy}
use Rattle.nbt_serve.specs.Waiting.{ReplyValue, WaitingValue, batch, more_of, counted, IsAbout, IsClear, with_line, all_durable, dropped, lay_down, laid_down, LineFails, syncs_of, sends_of, timely, leaving}
use Rattle.nbt_serve.specs.declared.waiting.Sent.{Sent}
use Rattle.nbt_serve.specs.declared.fault.KeepFault.{KeepFault}
use Rattle.nbt_serve.specs.declared.fault.KeepFault.TheVariants as fault

-- which name a reply is about
abbrev pub about_of : Option MessageValue → Option NameValue
about_of None = None
about_of (Some reply) = name_in reply

abbrev pub about_in : Turn → Option NameValue
about_in (is_taken now from octets reply) = about_of reply
about_in turn = None

-- for which name a query asked, by its answer
abbrev pub answered : Option MessageValue → Option NameValue
answered (Some (found id name ttl entries cut)) = Some name
answered (Some (not_found id rcode name)) = name
answered reply = None

abbrev pub asked_for : Turn → Option NameValue
asked_for (is_taken now from octets reply) = answered reply
asked_for turn = None

-- a datagram that came at a moment by a route, and that was barred
pub record Barred : Type 0 where
  pub now : ℕ
  pub from : Route
  pub octets : List ℕ

-- A turn of the server, and what it changed in the leases; or a datagram was barred, and nothing came to the server.
pub record Took : Type 0 where
  pub turn : Turn
  pub change : Option Change
  pub barred : Option Barred

-- what it makes of a server, and of whatever is kept of the server's leases; a change has the server's time, and is about the name that the reply
-- is about, and a lease that moves or goes was there; where a datagram was barred nothing came
pub record Takes (old : ServerValue) (took : Took) (new : ServerValue) : Type 0 where
  pub server : Turns old took.turn new
  pub keeps : (kept : Leases) → IsKept kept old → IsKept (after_any took.change kept) new
  pub time : IfSome took.change (λ change. at_of change ≡ new.last)
  pub named : IfSome took.change (λ change. changed_name change ≡ about_in took.turn)
  pub stands : (kept : Leases) → IsKept kept old → IfSome took.change (λ change. Stands change kept)
  pub nothing_came : IfSome took.barred (λ barred. (took.turn ≡ is_empty) × (took.change ≡ None))

-- whether it changed a lease, by what the log has of it
abbrev pub changes_in : Option Entry → Bool
changes_in None = false
changes_in (Some entry) = changes_leases entry.outcome

abbrev pub reply_in : Turn → List ReplyValue
reply_in (is_taken now from octets (Some reply)) = record { read = now; about = name_in reply; datagram = record { route = from; octets = text reply } } ∷ []
reply_in turn = []

-- the receive of a turn
abbrev pub receive_in : Option Barred → Turn → PortCall
receive_in (Some barred) turn = came barred.from barred.octets
receive_in None is_empty = nothing_came
receive_in None (is_taken now from octets reply) = came from octets
receive_in None (is_lost now from octets) = came from octets

-- the readings of the clock up to then
abbrev pub told_in : Option Barred → Turn → List ℕ
told_in (Some barred) turn = barred.now ∷ []
told_in None turn = moments_in turn

-- ---- the calls of a turn

-- so many milliseconds past the last durable time a datagram may be handled
abbrev pub reach : ℕ
reach = 1000

-- The lines that make a later time durable, before a datagram is handled that was read at one of these moments.
abbrev pub reached : (durable : ℕ) → (moments : List ℕ) → List Change
reached durable moments = map Reached (filter (λ moment. nat_lt (durable + reach) moment) moments)

-- what waits after those lines, each of them durable
abbrev pub with_lines : List Change → WaitingValue → WaitingValue
with_lines [] waiting = waiting
with_lines (change ∷ changes) waiting = with_lines changes (laid_down change waiting)

abbrev pub before_it : Turn → WaitingValue → WaitingValue
before_it turn waiting = with_lines (reached waiting.durable (moments_in turn)) waiting

-- and after its change was appended, if there is one
abbrev pub with_any : Option Change → WaitingValue → WaitingValue
with_any None waiting = waiting
with_any (Some change) waiting = with_line change waiting

abbrev pub appends_of : Option Change → List StoreCall
appends_of None = []
appends_of (Some change) = appended change ∷ []

-- the calls of the store, before what waits leaves
abbrev pub stores : Took → WaitingValue → List StoreCall
stores took waiting = flat_map lay_down (reached waiting.durable (moments_in took.turn)) ++ appends_of took.change

-- the first calls of a turn: the receive, and those of the store
abbrev pub taking : Took → WaitingValue → List DeviceCall
taking took waiting = on_port (receive_in took.barred took.turn) ∷ map on_store (stores took waiting)

-- what waits after those calls
abbrev pub behind_it : Took → WaitingValue → WaitingValue
behind_it took waiting = with_any took.change (before_it took.turn waiting)

-- ---- the reply of a turn

-- The reply of a turn rests on nothing that isn't durable: nothing waits; or it answers a query, and no reply about that name waits.
pub data RestsOnNothing (turn : Turn) (waiting : WaitingValue) : Type 0 where
  all_stands : IsClear waiting → RestsOnNothing turn waiting
  of_no_change : (name : NameValue) → asked_for turn ≡ Some name → ¬ IsAbout name waiting.replies → RestsOnNothing turn waiting

-- It leaves ahead of those that wait: and the store has nothing to do in the turn.
abbrev pub GoesAhead : Took → WaitingValue → Type 0
GoesAhead took waiting = (stores took waiting ≡ []) × RestsOnNothing took.turn waiting

-- whether it does
pub data IsAhead (took : Took) (waiting : WaitingValue) : Bool → Type 0 where
  goes_ahead : GoesAhead took waiting → IsAhead took waiting true
  waits : ¬ GoesAhead took waiting → IsAhead took waiting false

-- what waits then
abbrev pub behind : List ReplyValue → WaitingValue → WaitingValue
behind replies waiting = record waiting { replies = waiting.replies ++ replies }

abbrev pub held : (ahead : Bool) → List ReplyValue → WaitingValue → WaitingValue
held true replies waiting = waiting
held false replies waiting = behind replies waiting

abbrev pub sent_ahead : (ahead : Bool) → List ReplyValue → List ReplyValue
sent_ahead true replies = replies
sent_ahead false replies = []

abbrev pub with_reply : (ahead : Bool) → Took → WaitingValue → WaitingValue
with_reply ahead took waiting = held ahead (reply_in took.turn) (counted (behind_it took waiting))

-- the first calls of a turn, and that with which its reply leaves ahead
abbrev pub first_calls : (ahead : Bool) → Took → WaitingValue → List DeviceCall
first_calls ahead took waiting = taking took waiting ++ map on_port (sends_of (sent_ahead ahead (reply_in took.turn)))

-- ---- what waits

-- whether nothing came
abbrev pub is_idle : Option Barred → Turn → Bool
is_idle None is_empty = true
is_idle barred turn = false

abbrev pub is_any_reply : List ReplyValue → Bool
is_any_reply [] = false
is_any_reply (reply ∷ replies) = true

-- Whether what waits leaves then: something does, and nothing came, or all is durable, or as many replies wait as may, or no datagram more may
-- come before all is made durable.
abbrev pub leaves : (idle : Bool) → WaitingValue → Bool
leaves idle waiting = (is_any_reply waiting.replies || is_some waiting.unsynced)
    && (idle || (not (is_some waiting.unsynced) || (nat_le batch (length waiting.replies) || nat_eq (more_of waiting.unsynced) 0)))

-- The calls of a turn, by what waited, and whether its reply went ahead; the readings of the clock after its datagram was taken, and what waits
-- after it. Before what waits leaves there is a reading.
pub data Passes (life : ℕ) (old : WaitingValue) (took : Took) (ahead : Bool) : List DeviceCall → (readings : List ℕ) → WaitingValue → Type 0 where
  still_waits : IsAhead took old ahead → leaves (is_idle took.barred took.turn) (with_reply ahead took old) ≡ false → Passes life old took ahead (first_calls ahead took old) [] (with_reply ahead took old)
  all_leave : IsAhead took old ahead → leaves (is_idle took.barred took.turn) (with_reply ahead took old) ≡ true → (now : ℕ)
      → Passes life old took ahead (first_calls ahead took old ++ leaving life now (with_reply ahead took old)) (now ∷ []) (dropped (all_durable (with_reply ahead took old)))

-- What waits leaves, but a device fails: the store at its sync, and the replies are dropped; or the port at a reply, which is
-- lost, and those behind it still wait.
pub data LeavingFails (life : ℕ) (old : WaitingValue) : KeepFault → List DeviceCall → (readings : List ℕ) → WaitingValue → Type 0 where
  sync_fails : is_some old.unsynced ≡ true → LeavingFails life old fault.Store (on_store sync_failed ∷ []) [] (dropped old)
  send_fails : (now : ℕ) (before : List ReplyValue) (lost : ReplyValue) (rest : List ReplyValue) → timely life now old.replies ≡ before ++ lost ∷ rest
      → LeavingFails life old fault.Port (map on_store (syncs_of old.unsynced) ++ map on_port (sends_of before ++ send_failed lost.datagram.route lost.datagram.octets ∷ [])) (now ∷ []) (record (all_durable old) { replies = rest })

-- A turn in which a device fails, with what the server had taken by then, and the readings of the clock.
pub data Fails (life : ℕ) (old : WaitingValue) : Option Took → KeepFault → List DeviceCall → (readings : List ℕ) → WaitingValue → Type 0 where
  receive_fails : Fails life old None fault.Port (on_port receive_failed ∷ []) [] old
  reaching_fails : (now : ℕ) (from : Route) (octets : List ℕ) (calls : List StoreCall) → nat_lt (old.durable + reach) now ≡ true → LineFails (Reached now) calls
      → Fails life old None fault.Store (on_port (came from octets) ∷ map on_store calls) (now ∷ []) (dropped (with_line (Reached now) old))
  append_fails : (turn : Turn) (change : Change)
      → Fails life old (Some (record { turn = turn; change = Some change; barred = None })) fault.Store (on_port (receive_in None turn) ∷ map on_store (flat_map lay_down (reached old.durable (moments_in turn)) ++ append_failed change ∷ [])) (moments_in turn) (dropped (with_line change (before_it turn old)))
  ahead_fails : (took : Took) (lost : ReplyValue) → GoesAhead took old → reply_in took.turn ≡ lost ∷ []
      → Fails life old (Some took) fault.Port (taking took old ++ on_port (send_failed lost.datagram.route lost.datagram.octets) ∷ []) (told_in took.barred took.turn) (with_reply true took old)
  leaving_fails : (took : Took) (ahead : Bool) (why : KeepFault) (calls : List DeviceCall) (readings : List ℕ) (new : WaitingValue) → IsAhead took old ahead → leaves (is_idle took.barred took.turn) (with_reply ahead took old) ≡ true
      → LeavingFails life (with_reply ahead took old) why calls readings new → Fails life old (Some took) why (first_calls ahead took old ++ calls) (told_in took.barred took.turn ++ readings) new

abbrev pub TakesAny : ServerValue → Option Took → ServerValue → Type 0
TakesAny old None new = new ≡ old
TakesAny old (Some took) new = Takes old took new

-- ---- the shares of the clients

-- What a turn makes of the counts, by the room that the store has, and by whether the datagram that was handled changed a lease.
abbrev pub TakesShare : Room → ShareValue → Option Barred → Turn → (changed : Bool) → ShareValue → Type 0
TakesShare room old (Some barred) turn changed new = SharesBy room barred.now barred.from.peer.ip barred.octets old true false new
TakesShare room old None is_empty changed new = new ≡ old
TakesShare room old None (is_taken now from octets reply) changed new = SharesBy room now from.peer.ip octets old false changed new
TakesShare room old None (is_lost now from octets) changed new = SharesBy room now from.peer.ip octets old false changed new

-- the same of what was taken
abbrev pub TakesShareOf : Room → ShareValue → Took → ShareValue → Type 0
TakesShareOf room old took new = TakesShare room old took.barred took.turn (is_some took.change) new

-- nothing was counted where the port failed as it received
abbrev pub TakesAnyShare : Room → ShareValue → Option Took → ShareValue → Type 0
TakesAnyShare room old None new = new ≡ old
TakesAnyShare room old (Some took) new = TakesShareOf room old took new

-- ---- with the devices

-- a server, its port, its store and its clock, the shares of its clients, and the replies that wait
pub record Keeping (P S C : Type 0) : Type 0 where
  pub port : P
  pub store : S
  pub clock : C
  pub server : ServerValue
  pub share : ShareValue
  pub waiting : WaitingValue

abbrev pub devices_of : {P S C : Type 0} → Keeping P S C → Devices P S
devices_of here = record { port = here.port; store = here.store }

-- A turn: what the log has of it, what room the store had, whether its reply went ahead, and at which moment what waited left, if it did.
pub record KeepsTurn {P S C : Type 0} (does : P → PortCall → P → Type 0) (keeps : S → StoreCall → S → Type 0) (tells : C → ℕ → C → Type 0)
    (old : Keeping P S C) (entry : Option Entry) (sent : Sent) (new : Keeping P S C) : Type 0 where
  pub took : Took
  pub calls : List DeviceCall
  pub readings : List ℕ
  pub takes : Takes old.server took new.server
  pub logged : IsLogged takes.server entry
  pub changed : is_some took.change ≡ changes_in entry
  pub room : Room
  pub shared : TakesShareOf room old.share took new.share
  pub passes : Passes new.server.table.config.life old.waiting took sent.ahead calls readings new.waiting
  pub devices_did : Chain (DeviceDoes does keeps) (devices_of old) calls (devices_of new)
  pub clock_told : Chain tells old.clock (told_in took.barred took.turn ++ readings) new.clock
  pub left_is : readings ≡ option_to_list sent.left

-- A turn in which a device fails. Where it is the store, nothing is said of the counts, since the server ends.
pub record BreaksKeeping {P S C : Type 0} (does : P → PortCall → P → Type 0) (keeps : S → StoreCall → S → Type 0) (tells : C → ℕ → C → Type 0)
    (why : KeepFault) (old new : Keeping P S C) : Type 0 where
  pub took : Option Took
  pub calls : List DeviceCall
  pub readings : List ℕ
  pub takes : TakesAny old.server took new.server
  pub fails : Fails new.server.table.config.life old.waiting took why calls readings new.waiting
  pub devices_did : Chain (DeviceDoes does keeps) (devices_of old) calls (devices_of new)
  pub clock_told : Chain tells old.clock readings new.clock
  pub room : Room
  pub shared : why ≡ fault.Port → TakesAnyShare room old.share took new.share
