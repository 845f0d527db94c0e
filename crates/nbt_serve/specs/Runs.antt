-- Whole runs of a server that keeps its leases, and what a crash leaves of them (our profile).
use Rattle.std.specs.Prelude.{◌≡◌, ℕ, ◌+◌, ◌≤◌, ◌⊎◌, ⊤, Bool, true, List, [], ◌∷◌, ◌++◌, length, map, filter, Option, Some, None, is_some}
use Rattle.std.specs.List.{flat_map, AllByRecursion}
use Rattle.nbt_name.specs.Wire.{NameValue}
use Rattle.nbt_lease.specs.Lease.{Rows, is_live}
use Rattle.nbt_port.specs.declared.port.Route.{Route}
use Rattle.nbt_port.specs.Memory.{DatagramValue}
use Rattle.nbt_port.specs.PortCalls.{Chain, sent, send_failed}
use Rattle.nbt_server.specs.Serving.{ServerValue}
use Rattle.nbt_store.specs.declared.change.Change.{Change}
use Rattle.nbt_store.specs.declared.header.Header.{Header}
use Rattle.nbt_packet.specs.Message.{MessageValue}
use Rattle.nbt_packet.specs.Text.{text}
use Rattle.nbt_store.specs.declared.change.Change.TheVariants.{Looked}
use Rattle.nbt_store.specs.Lines.{AllStand}
use Rattle.nbt_store.specs.declared.form.Form.TheVariants.{Three}
use Rattle.nbt_store.specs.Calls.{StoreCall, renewal_began, renewal_went_on, renewed, renewal_failed, Draft, Kept, after_call, after_calls, MayLeaveAfter, first_changes, as_drafted}
use Rattle.nbt_store.specs.Changes.{after_all, begun_all, no_leases, last_of, MayLeave}
use Rattle.nbt_serve.specs.Serving.{Turn, Turns}
use Rattle.nbt_serve.specs.Changing.{IsKept}
use Rattle.nbt_serve.specs.Devices.{DeviceCall, on_port, on_store}
use Rattle.nbt_serve.specs.Waiting.{WaitingValue, none_waits, IsClear, with_line, dropped, lay_down, LineFails}
use Rattle.nbt_serve.specs.Turning.{Took, Takes, TakesAny, reply_in, answered, asked_for, reach, Passes, Fails}
use Rattle.nbt_serve.specs.declared.fault.KeepFault.TheVariants as fault

-- ---- a run

-- a server, and the replies that wait
pub record Held : Type 0 where
  pub server : ServerValue
  pub waiting : WaitingValue

-- what is seen of a step: what the server took in it, if it took something, and the calls of the devices
pub record Seen : Type 0 where
  pub took : Option Took
  pub calls : List DeviceCall

-- the live leases of a server, as rows
abbrev pub live_rows : ServerValue → Rows
live_rows server = filter (λ row. is_live server.last row.1) server.table.rows

-- A step after which the server goes on: a turn, also one in which the port fails; or, where no reply waits and all is durable, a line of both
-- clocks becomes durable, at a moment that isn't before the durable time, a new file is begun of its live leases, with such a moment as LAST, that
-- is gone on with, or it takes the file's place.
pub data Steps (old : Held) : Seen → Held → Type 0 where
  takes_turn : (life : ℕ) (took : Took) (ahead : Bool) (calls : List DeviceCall) (readings : List ℕ) (server : ServerValue) (waiting : WaitingValue) → Takes old.server took server → Passes life old.waiting took ahead calls readings waiting
      → Steps old (record { took = Some took; calls = calls }) (record { server = server; waiting = waiting })
  port_fails : (life : ℕ) (took : Option Took) (calls : List DeviceCall) (readings : List ℕ) (server : ServerValue) (waiting : WaitingValue) → TakesAny old.server took server → Fails life old.waiting took fault.Port calls readings waiting
      → Steps old (record { took = took; calls = calls }) (record { server = server; waiting = waiting })
  looks : (day at : ℕ) → IsClear old.waiting → old.waiting.durable ≤ at
      → Steps old (record { took = None; calls = map on_store (lay_down (Looked day at)) }) (record { server = old.server; waiting = none_waits at })
  begins_renewal : (header : Header) → IsClear old.waiting → old.waiting.durable ≤ header.last
      → Steps old (record { took = None; calls = on_store (renewal_began header (begun_all header.last (live_rows old.server))) ∷ [] }) old
  goes_on_renewing : IsClear old.waiting → Steps old (record { took = None; calls = on_store renewal_went_on ∷ [] }) old
  renews : IsClear old.waiting → Steps old (record { took = None; calls = on_store renewed ∷ [] }) old

-- A step in which the store fails, which is the last.
pub data Ends (old : Held) : Seen → Held → Type 0 where
  store_fails : (life : ℕ) (took : Option Took) (calls : List DeviceCall) (readings : List ℕ) (server : ServerValue) (waiting : WaitingValue) → TakesAny old.server took server → Fails life old.waiting took fault.Store calls readings waiting
      → Ends old (record { took = took; calls = calls }) (record { server = server; waiting = waiting })
  look_fails : (day at : ℕ) (calls : List StoreCall) → IsClear old.waiting → old.waiting.durable ≤ at → LineFails (Looked day at) calls
      → Ends old (record { took = None; calls = map on_store calls }) (record { server = old.server; waiting = dropped (with_line (Looked day at) old.waiting) })
  renewal_fails : IsClear old.waiting → Ends old (record { took = None; calls = on_store renewal_failed ∷ [] }) old

pub data Runs (old : Held) : List Seen → Held → Type 0 where
  goes_on : (seen : List Seen) (new : Held) → Chain Steps old seen new → Runs old seen new
  ends : (seen : List Seen) (mid : Held) (last : Seen) (new : Held) → Chain Steps old seen mid → Ends mid last new → Runs old (seen ++ last ∷ []) new

-- ---- what a run comes to

abbrev pub calls_in : List Seen → List DeviceCall
calls_in seen = flat_map (λ s. s.calls) seen

abbrev pub turn_of : Option Took → List Turn
turn_of None = []
turn_of (Some took) = took.turn ∷ []

abbrev pub turns_in : List Seen → List Turn
turns_in seen = flat_map (λ s. turn_of s.took) seen

abbrev pub replies_in : List Turn → List DatagramValue
replies_in turns = map (λ reply. reply.datagram) (flat_map reply_in turns)

-- the calls of the store alone
abbrev pub stored_in : List DeviceCall → List StoreCall
stored_in [] = []
stored_in (on_port call ∷ calls) = stored_in calls
stored_in (on_store call ∷ calls) = call ∷ stored_in calls

-- the replies that were sent, or lost at a send that failed
abbrev pub gone_in : List DeviceCall → List DatagramValue
gone_in [] = []
gone_in (on_port (sent to octets) ∷ calls) = record { route = to; octets = octets } ∷ gone_in calls
gone_in (on_port (send_failed to octets) ∷ calls) = record { route = to; octets = octets } ∷ gone_in calls
gone_in (call ∷ calls) = gone_in calls

-- LAST of the header of a new file, if there is one
abbrev pub last_drafted : Option Draft → (otherwise : ℕ) → ℕ
last_drafted None otherwise = otherwise
last_drafted (Some draft) otherwise = draft.last

-- LAST of the file's header, after a call of the store: where a new file takes its place, of that one's
abbrev pub last_by : StoreCall → Kept → (last : ℕ) → ℕ
last_by renewed kept last = last_drafted kept.draft last
last_by call kept last = last

-- and after these
abbrev pub last_after : Kept → List StoreCall → (last : ℕ) → ℕ
last_after kept [] last = last
last_after kept (call ∷ calls) last = last_after (after_call call kept) calls (last_by call kept last)

-- LAST of the file that a crash leaves: also of the new file that was last to take its place, where that failed
abbrev pub last_left : {kept : Kept} {calls : List StoreCall} {left : List Change} → (last : ℕ) → MayLeaveAfter kept calls left → ℕ
last_left {kept = kept} {calls = calls} last (first_changes may) = last_after kept calls last
last_left last (as_drafted before draft calls_are there left_is) = draft.last

-- ---- the laws

-- A run begins: no reply waits, the store has the server's live leases and no new file, all of them durable and each that moved or went was there, and the server's time isn't more than 1,000 ms past
-- the last durable one. `last` is LAST of the file's header.
pub record Begins (kept : Kept) (last : ℕ) (held : Held) : Type 0 where
  pub leases : IsKept (after_all kept.changes no_leases) held.server
  pub stand : AllStand Three kept.changes no_leases
  pub all : kept.durable ≡ length kept.changes
  pub alone : kept.draft ≡ None
  pub clear : IsClear held.waiting
  pub durable : held.waiting.durable ≤ last_of last kept.changes
  pub soon : held.server.last ≤ held.waiting.durable + reach

-- The first list is the second but for what was left out.
pub data LeavesOut {A : Type 0} : List A → List A → Type 0 where
  nothing : LeavesOut [] []
  not_this : (x : A) (xs ys : List A) → LeavesOut xs ys → LeavesOut (x ∷ xs) (x ∷ ys)
  this : (y : A) (xs ys : List A) → LeavesOut xs ys → LeavesOut xs (y ∷ ys)

-- The third list is the second without one of these.
pub data TakesOne {A : Type 0} (x : A) : List A → List A → Type 0 where
  here : (ys : List A) → TakesOne x (x ∷ ys) ys
  there : (y : A) (ys zs : List A) → TakesOne x ys zs → TakesOne x (y ∷ ys) (y ∷ zs)

-- The first list has items of the second, each once at most, in any order.
abbrev pub AreAmong : {A : Type 0} → List A → List A → Type 0
AreAmong [] ys = ⊤
AreAmong {A} (x ∷ xs) ys = (zs : List A) × TakesOne x ys zs × AreAmong xs zs

-- each is a query that was answered
abbrev pub AreAnswers : List Turn → Type 0
AreAnswers turns = AllByRecursion (λ turn. is_some (asked_for turn) ≡ true) turns

-- The changes that are left have the live leases of the server after the first of these turns and after queries of those behind them. Its time isn't
-- more than 1,000 ms past the last time of what is left. Each lease that they move or release was there. And the replies that left are replies of
-- those first turns and of those queries: none of another turn has left.
pub record IsEarlier (first : ServerValue) (turns : List Turn) (gone : List DatagramValue) (last : ℕ) (left : List Change) : Type 0 where
  pub front : List Turn
  pub back : List Turn
  pub asked : List Turn
  pub server : ServerValue
  pub turns_are : turns ≡ front ++ back
  pub some : LeavesOut asked back
  pub answers : AreAnswers asked
  pub run : Chain Turns first (front ++ asked) server
  pub leases : IsKept (after_all left no_leases) server
  pub stand : AllStand Three left no_leases
  pub replies : AreAmong gone (replies_in (front ++ asked))
  pub soon : server.last ≤ last_of last left + reach

-- These octets answer a query for a name, and whatever a crash leaves of what is kept has all leases of that name.
pub record AnswersOfDurable (kept : Kept) (octets : List ℕ) : Type 0 where
  pub message : MessageValue
  pub name : NameValue
  pub octets_are : octets ≡ text message
  pub answers : answered (Some message) ≡ Some name
  pub durable : (left : List Change) → MayLeave kept.changes kept.durable left → after_all left no_leases name ≡ after_all kept.changes no_leases name

-- A reply may leave: all changes are durable, or it answers a query of whose name all are.
abbrev pub MayBeSent : Kept → (octets : List ℕ) → Type 0
MayBeSent kept octets = (kept.durable ≡ length kept.changes) ⊎ AnswersOfDurable kept octets

-- Whenever a reply is sent, it may leave.
abbrev pub NoReplyPrecedesItsChange : Type 0
NoReplyPrecedesItsChange = (kept : Kept) (last : ℕ) (old new : Held) (seen : List Seen) → Begins kept last old → Runs old seen new
    → (before behind : List DeviceCall) (to : Route) (octets : List ℕ) → calls_in seen ≡ before ++ on_port (sent to octets) ∷ behind
    → MayBeSent (after_calls (stored_in before) kept) octets

-- Whatever a crash leaves after any of the calls, or within one that failed, is of an earlier server, whose turns have each
-- reply that has left.
abbrev pub CrashLeavesAnEarlierServer : Type 0
CrashLeavesAnEarlierServer = (kept : Kept) (last : ℕ) (old new : Held) (seen : List Seen) → Begins kept last old → Runs old seen new
    → (before behind : List DeviceCall) (left : List Change) → calls_in seen ≡ before ++ behind → (may : MayLeaveAfter kept (stored_in before) left)
    → IsEarlier old.server (turns_in seen) (gone_in before) (last_left last may) left

-- The servers of a run are those of its turns, as without a store.
abbrev pub ServersGoByTurns : Type 0
ServersGoByTurns = (old new : Held) (seen : List Seen) → Runs old seen new → Chain Turns old.server (turns_in seen) new.server
