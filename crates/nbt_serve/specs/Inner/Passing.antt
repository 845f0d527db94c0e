-- Whether what waits leaves (private functions alone).
use Rattle.std.specs.Prelude.{◌≡◌, ℕ, Bool, true, false, List, [], ◌∷◌, ◌++◌, map, Option, Some, None}
use Rattle.nbt_name.specs.Wire.{NameValue}
use Rattle.nbt_log.specs.declared.entry.Entry.{Entry}
use Rattle.nbt_port.specs.declared.port.Route.{Route}
use Rattle.nbt_port.specs.PortCalls.{send_failed}
use Rattle.nbt_server.specs.Outcomes.{has_reply}
use Rattle.nbt_server.specs.declared.outcome.Outcome.{Outcome}
use Rattle.nbt_server.specs.declared.outcome.Outcome.TheVariants as did
use Rattle.nbt_store.specs.declared.change.Change.{Change}
use Rattle.nbt_serve.specs.Changing.{name_of}
use Rattle.nbt_serve.specs.Devices.{DeviceCall, on_port}
use Rattle.nbt_serve.specs.Waiting.{ReplyValue, WaitingValue, IsClear, IsAbout, all_durable, counted, dropped, sends_of, leaving}
use Rattle.nbt_serve.specs.Turning.{held, sent_ahead, leaves, LeavingFails}
use Rattle.nbt_serve.specs.declared.fault.KeepFault.{KeepFault}
use Rattle.nbt_serve.specs.declared.fault.KeepFault.TheVariants as fault

-- by which route the reply of a turn goes, if it has one, by what the log has of it: by that of the datagram that came
abbrev pub goes_where : (has_one : Bool) → (came : Option Route) → Option Route
goes_where true came = came
goes_where false came = None

abbrev pub goes_to : (came : Option Route) → Option Entry → Option Route
goes_to came None = None
goes_to came (Some entry) = goes_where (has_reply entry.outcome) came

-- which name a request was about that was answered
abbrev pub name_in_any : Option Entry → Option NameValue
name_in_any None = None
name_in_any (Some entry) = name_of entry.outcome

-- for which name a query asked that was answered
abbrev pub query_of : Outcome → Option NameValue
query_of (did.Found name) = Some name
query_of (did.NotFound name) = Some name
query_of outcome = None

abbrev pub query_in : Option Entry → Option NameValue
query_in None = None
query_in (Some entry) = query_of entry.outcome

-- that reply, to a request about a name that was read at a moment, with these octets
abbrev pub reply_to : (read : ℕ) → (about : Option NameValue) → Option Route → (octets : List ℕ) → List ReplyValue
reply_to read about None octets = []
reply_to read about (Some to) octets = record { read = read; about = about; datagram = record { route = to; octets = octets } } ∷ []

-- whether there is one of these lines
abbrev pub is_any : List Change → Bool
is_any [] = false
is_any (change ∷ changes) = true

-- What waits leaves, or still waits.
pub data Leaves (life : ℕ) (idle : Bool) (old : WaitingValue) : List DeviceCall → (readings : List ℕ) → WaitingValue → Type 0 where
  still_wait : leaves idle old ≡ false → Leaves life idle old [] [] old
  now_leave : leaves idle old ≡ true → (now : ℕ) → Leaves life idle old (leaving life now old) (now ∷ []) (dropped (all_durable old))

-- The reply of a turn goes ahead: nothing waits, or it answers a query for this name, about which no reply waits; and there was no sync before it.
pub data IsFree (asked : Option NameValue) (waiting : WaitingValue) : Type 0 where
  is_clear : IsClear waiting → IsFree asked waiting
  is_other : (name : NameValue) → asked ≡ Some name → ¬ IsAbout name waiting.replies → IsFree asked waiting

abbrev pub GoesFirst : (synced : Bool) → (asked : Option NameValue) → WaitingValue → Type 0
GoesFirst synced asked waiting = (synced ≡ false) × IsFree asked waiting

pub data IsFirst (synced : Bool) (asked : Option NameValue) (waiting : WaitingValue) : Bool → Type 0 where
  is_first : GoesFirst synced asked waiting → IsFirst synced asked waiting true
  is_not_first : ¬ GoesFirst synced asked waiting → IsFirst synced asked waiting false

-- what waits then
abbrev pub with_held : (ahead : Bool) → List ReplyValue → WaitingValue → WaitingValue
with_held ahead replies waiting = held ahead replies (counted waiting)

-- The replies of a turn go ahead, or wait as the others do; and what waits leaves, or still waits.
pub data PassesOn (life : ℕ) (idle synced : Bool) (asked : Option NameValue) (replies : List ReplyValue) (old : WaitingValue) (ahead : Bool) : List DeviceCall → (readings : List ℕ) → WaitingValue → Type 0 where
  passes_on : (calls : List DeviceCall) (readings : List ℕ) (new : WaitingValue) → IsFirst synced asked old ahead → Leaves life idle (with_held ahead replies old) calls readings new
      → PassesOn life idle synced asked replies old ahead (map on_port (sends_of (sent_ahead ahead replies)) ++ calls) readings new

-- A device fails at that.
pub data PassingFails (life : ℕ) (idle synced : Bool) (asked : Option NameValue) (replies : List ReplyValue) (old : WaitingValue) : KeepFault → List DeviceCall → (readings : List ℕ) → WaitingValue → Type 0 where
  not_sent : (lost : ReplyValue) → GoesFirst synced asked old → replies ≡ lost ∷ []
      → PassingFails life idle synced asked replies old fault.Port (on_port (send_failed lost.datagram.route lost.datagram.octets) ∷ []) [] (with_held true replies old)
  not_left : (ahead : Bool) (why : KeepFault) (calls : List DeviceCall) (readings : List ℕ) (new : WaitingValue) → IsFirst synced asked old ahead → leaves idle (with_held ahead replies old) ≡ true
      → LeavingFails life (with_held ahead replies old) why calls readings new → PassingFails life idle synced asked replies old why (map on_port (sends_of (sent_ahead ahead replies)) ++ calls) readings new
