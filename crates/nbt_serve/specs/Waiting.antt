-- Replies that wait until the changes that they rest on are durable (our profile).
use Rattle.std.specs.Prelude.{◌≡◌, ℕ, ◌+◌, ◌-◌, max, nat_le, List, [], ◌∷◌, ◌++◌, map, filter, Any, Option, Some, None}
use Rattle.nbt_name.specs.Wire.{NameValue}
use Rattle.nbt_port.specs.Memory.{DatagramValue}
use Rattle.nbt_port.specs.PortCalls.{PortCall, sent}
use Rattle.nbt_store.specs.declared.change.Change.{Change}
use Rattle.nbt_store.specs.Calls.{StoreCall, appended, append_failed, synced, sync_failed}
use Rattle.nbt_store.specs.Changes.{at_of}
use Rattle.nbt_serve.specs.Devices.{DeviceCall, on_port, on_store}
use Rattle.nbt_serve.specs.declared.waiting.Reply.{Reply}
use Rattle.nbt_serve.specs.declared.waiting.Unsynced.{Unsynced}

-- at so many replies they leave, and after so many datagrams behind a change
abbrev pub batch : ℕ
batch = 64

-- a reply, when the request was read that it answers, and which name that is about
pub record ReplyValue : Type 0 where
  pub read : ℕ
  pub about : Option NameValue
  pub datagram : DatagramValue

abbrev pub value_of : Reply → ReplyValue
value_of reply = record { read = reply.read; about = reply.about; datagram = record { route = reply.to; octets = reply.octets.items } }

-- The replies that wait, in the order of their datagrams; the time up to which all is durable; and where there are lines that aren't
-- durable yet, the time of the last, and how many datagrams more may come before they are made so.
pub record WaitingValue : Type 0 where
  pub replies : List ReplyValue
  pub durable : ℕ
  pub unsynced : Option Unsynced

-- how many datagrams more may come before all is made durable
abbrev pub more_of : Option Unsynced → ℕ
more_of None = batch
more_of (Some unsynced) = unsynced.more

-- one datagram more came
abbrev pub one_less : Option Unsynced → Option Unsynced
one_less None = None
one_less (Some unsynced) = Some (record unsynced { more = unsynced.more - 1 })

abbrev pub counted : WaitingValue → WaitingValue
counted waiting = record waiting { unsynced = one_less waiting.unsynced }

-- a reply about a name waits
abbrev pub IsAbout : NameValue → List ReplyValue → Type 0
IsAbout name replies = Any (λ reply. reply.about ≡ Some name) replies

-- no reply waits, and all is durable
abbrev pub none_waits : (durable : ℕ) → WaitingValue
none_waits durable = record { replies = []; durable = durable; unsynced = None }

abbrev pub IsClear : WaitingValue → Type 0
IsClear waiting = waiting ≡ none_waits waiting.durable

-- ---- lines, and what they make of what waits

-- a line is appended
abbrev pub with_line : Change → WaitingValue → WaitingValue
with_line change waiting = record waiting { unsynced = Some (record { at = at_of change; more = more_of waiting.unsynced }) }

-- all lines become durable: so is the greatest of their times
abbrev pub durable_then : (durable : ℕ) → (unsynced : Option Unsynced) → ℕ
durable_then durable None = durable
durable_then durable (Some unsynced) = max durable unsynced.at

abbrev pub all_durable : WaitingValue → WaitingValue
all_durable waiting = record waiting { durable = durable_then waiting.durable waiting.unsynced; unsynced = None }

-- what is left where the store failed: the replies are dropped
abbrev pub dropped : WaitingValue → WaitingValue
dropped waiting = record waiting { replies = [] }

-- a line is appended, and becomes durable at once
abbrev pub lay_down : Change → List StoreCall
lay_down change = appended change ∷ synced ∷ []

abbrev pub laid_down : Change → WaitingValue → WaitingValue
laid_down change waiting = all_durable (with_line change waiting)

-- The store fails at that.
pub data LineFails (change : Change) : List StoreCall → Type 0 where
  not_appended : LineFails change (append_failed change ∷ [])
  not_synced : LineFails change (appended change ∷ sync_failed ∷ [])

-- ---- what waits leaves

abbrev pub syncs_of : Option Unsynced → List StoreCall
syncs_of None = []
syncs_of (Some unsynced) = synced ∷ []

abbrev pub sends_of : List ReplyValue → List PortCall
sends_of replies = map (λ reply. sent reply.datagram.route reply.datagram.octets) replies

-- The replies that leave at a moment: a datagram's life counts from when the request was read. The others are dropped.
abbrev pub timely : (life now : ℕ) → List ReplyValue → List ReplyValue
timely life now replies = filter (λ reply. nat_le now (reply.read + life)) replies

-- the calls with which all that waits leaves at a moment: what isn't durable yet first becomes so
abbrev pub leaving : (life now : ℕ) → WaitingValue → List DeviceCall
leaving life now waiting = map on_store (syncs_of waiting.unsynced) ++ map on_port (sends_of (timely life now waiting.replies))
