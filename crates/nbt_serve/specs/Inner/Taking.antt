-- What a datagram that came makes of a server and of what waits (private functions alone).
use Rattle.std.specs.Prelude.{◌≡◌, ℕ, ◌+◌, Bool, true, not, nat_lt, List, [], ◌∷◌, ◌++◌, Option, None, Some, is_some, Ok}
use Rattle.std.specs.List.{flat_map}
use Rattle.nbt_log.specs.declared.entry.Entry.{Entry}
use Rattle.nbt_port.specs.declared.port.Route.{Route}
use Rattle.nbt_port.specs.PortCalls.{came, receiving, Chain}
use Rattle.nbt_server.specs.Serving.{ServerValue}
use Rattle.nbt_store.specs.declared.change.Change.{Change}
use Rattle.nbt_store.specs.declared.change.Change.TheVariants.{Reached}
use Rattle.nbt_store.specs.declared.room.Room.{Room}
use Rattle.nbt_store.specs.Calls.{StoreCall, append_failed}
use Rattle.nbt_serve.specs.Serving.{Turn, moments_in, IsLogged}
use Rattle.nbt_serve.specs.Sharing.{ShareValue}
use Rattle.nbt_serve.specs.Waiting.{WaitingValue, with_line, dropped, lay_down, LineFails}
use Rattle.nbt_serve.specs.Turning.{Took, Takes, TakesShareOf, changes_in, reply_in, receive_in, told_in, asked_for, is_idle, reach, reached, before_it, with_any, stores}
use Rattle.nbt_serve.specs.Inner.Passing.{goes_to, name_in_any, query_in, reply_to, is_any}

module _ {S C : Type 0} (keeps : S → StoreCall → S → Type 0) (tells : C → ℕ → C → Type 0) (old_store : S) (old_clock : C) (old : ServerValue) (old_share : ShareValue) (old_waiting : WaitingValue) where
  -- A datagram that came by a route was taken, lost or barred, or none came; `synced` says whether a time became durable first, and `out` has the reply,
  -- if there is one.
  pub record HasTaken (route : Option Route) (octets : List ℕ) (entry : Option Entry) (out : List ℕ) (synced : Bool) (store : S) (clock : C) (new : ServerValue) (share : ShareValue) (waiting : WaitingValue) : Type 0 where
    pub took : Took
    pub takes : Takes old took new
    pub logged : IsLogged takes.server entry
    pub changed : is_some took.change ≡ changes_in entry
    pub room : Room
    pub shared : TakesShareOf room old_share took share
    pub received : receive_in took.barred took.turn ≡ receiving (Ok route) octets
    pub idle : is_idle took.barred took.turn ≡ not (is_some route)
    pub asked : asked_for took.turn ≡ query_in entry
    pub reply : reply_in took.turn ≡ reply_to new.last (name_in_any entry) (goes_to route entry) out
    pub synced_is : synced ≡ is_any (reached old_waiting.durable (moments_in took.turn))
    pub stored : Chain keeps old_store (stores took old_waiting) store
    pub clock_told : Chain tells old_clock (told_in took.barred took.turn) clock
    pub waiting_is : waiting ≡ with_any took.change (before_it took.turn old_waiting)

  -- The store fails: before the datagram was handled, or as its change is appended.
  pub data FailsToTake (from : Route) (octets : List ℕ) (store : S) (clock : C) (new : ServerValue) (waiting : WaitingValue) : Type 0 where
    in_reaching : (now : ℕ) (calls : List StoreCall) → nat_lt (old_waiting.durable + reach) now ≡ true → LineFails (Reached now) calls → Chain keeps old_store calls store → tells old_clock now clock → new ≡ old
        → waiting ≡ dropped (with_line (Reached now) old_waiting) → FailsToTake from octets store clock new waiting
    in_appending : (turn : Turn) (change : Change) → Takes old (record { turn = turn; change = Some change; barred = None }) new → receive_in None turn ≡ came from octets
        → Chain keeps old_store (flat_map lay_down (reached old_waiting.durable (moments_in turn)) ++ append_failed change ∷ []) store → Chain tells old_clock (moments_in turn) clock
        → waiting ≡ dropped (with_line change (before_it turn old_waiting)) → FailsToTake from octets store clock new waiting
