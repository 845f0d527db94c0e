-- The file of a server that keeps its leases is looked after (our profile).
use Rattle.std.specs.Prelude.{◌≡◌, ℕ, ◌+◌, ◌*◌, ◌<◌, ◌≤◌, Bool, true, false, not, ◌||◌, nat_le, List}
use Rattle.nbt_port.specs.PortCalls.{Chain}
use Rattle.nbt_server.specs.Serving.{ServerValue}
use Rattle.nbt_store.specs.Calls.{StoreCall, renewal_began, renewal_went_on, renewed, renewal_failed}
use Rattle.nbt_store.specs.Changes.{begun_all}
use Rattle.nbt_store.specs.Silence.{bears_out}
use Rattle.nbt_store.specs.declared.change.Change.{Change}
use Rattle.nbt_store.specs.declared.change.Change.TheVariants.{Looked}
use Rattle.nbt_store.specs.declared.header.Header.{Header}
use Rattle.nbt_serve.specs.Waiting.{WaitingValue, none_waits, IsClear, with_line, dropped, lay_down, laid_down, LineFails}
use Rattle.nbt_serve.specs.Runs.{live_rows}

-- what is looked after: the store, the clock of the time of day, the header of the file, and what waits
pub record Desk (S D : Type 0) : Type 0 where
  pub store : S
  pub day : D
  pub header : Header
  pub waiting : WaitingValue

-- the header with another pair: a moment, and the time of day at it
abbrev pub header_at : Header → (moment time : ℕ) → Header
header_at header moment time = record header { last = moment; day = time }

-- a quarter of the longest lease, in milliseconds
abbrev pub quarter : (longest : ℕ) → ℕ
quarter longest = 250 * longest

-- Whether a line of both clocks is due: a quarter of the longest lease passed since the durable time, or the two went apart since the pair of
-- the header, so that a start wouldn't go on by the same clock.
abbrev pub is_line_due : Header → (durable moment time : ℕ) → Bool
is_line_due header durable moment time = nat_le (durable + quarter header.longest) moment || not (bears_out header.last header.day moment time)

-- The file is looked after at a moment, where no reply waits and the moment isn't before the durable time: the time of day is read, and then one
-- thing is done at most, but none where the store has no room. Where a line of both clocks is due, it is appended, and becomes durable at once; then
-- the header has that moment and that time of day. A new file that was begun is gone on with, by one part, with which it may take the file's
-- place. Where the file is long, such a line becomes durable too, and a new file is begun of the live leases, but for want of memory or of room.
pub data LooksAfter {S D : Type 0} (keeps : S → StoreCall → S → Type 0) (days : D → ℕ → D → Type 0) (server : ServerValue) (at : ℕ) (old : Desk S D) : Desk S D → Type 0 where
  replies_wait : ¬ IsClear old.waiting → LooksAfter keeps days server at old old
  goes_back : at < old.waiting.durable → LooksAfter keeps days server at old old
  stays : (time : ℕ) (day : D) → IsClear old.waiting → old.waiting.durable ≤ at → days old.day time day → is_line_due old.header old.waiting.durable at time ≡ false
      → LooksAfter keeps days server at old (record old { day = day })
  has_no_room : (time : ℕ) (day : D) → IsClear old.waiting → old.waiting.durable ≤ at → days old.day time day → LooksAfter keeps days server at old (record old { day = day })
  looked : (time : ℕ) (day : D) (store : S) → IsClear old.waiting → old.waiting.durable ≤ at → days old.day time day → is_line_due old.header old.waiting.durable at time ≡ true
      → Chain keeps old.store (lay_down (Looked time at)) store → LooksAfter keeps days server at old (record { store = store; day = day; header = header_at old.header at time; waiting = none_waits at })
  begun : (time : ℕ) (day : D) (mid store : S) → IsClear old.waiting → old.waiting.durable ≤ at → days old.day time day → is_line_due old.header old.waiting.durable at time ≡ false
      → Chain keeps old.store (lay_down (Looked time at)) mid → keeps mid (renewal_began (header_at old.header at time) (begun_all at (live_rows server))) store
      → LooksAfter keeps days server at old (record { store = store; day = day; header = header_at old.header at time; waiting = none_waits at })
  went_on : (time : ℕ) (day : D) (store : S) → IsClear old.waiting → old.waiting.durable ≤ at → days old.day time day → is_line_due old.header old.waiting.durable at time ≡ false
      → keeps old.store renewal_went_on store → LooksAfter keeps days server at old (record { store = store; day = day; header = old.header; waiting = old.waiting })
  written : (time : ℕ) (day : D) (store : S) → IsClear old.waiting → old.waiting.durable ≤ at → days old.day time day → is_line_due old.header old.waiting.durable at time ≡ false
      → keeps old.store renewed store → LooksAfter keeps days server at old (record { store = store; day = day; header = old.header; waiting = old.waiting })

-- The store fails at that.
pub data FailsToLook {S D : Type 0} (keeps : S → StoreCall → S → Type 0) (days : D → ℕ → D → Type 0) (server : ServerValue) (at : ℕ) (old : Desk S D) : Desk S D → Type 0 where
  line_fails : (time : ℕ) (day : D) (store : S) (calls : List StoreCall) → IsClear old.waiting → old.waiting.durable ≤ at → days old.day time day → LineFails (Looked time at) calls → Chain keeps old.store calls store
      → FailsToLook keeps days server at old (record { store = store; day = day; header = header_at old.header at time; waiting = dropped (with_line (Looked time at) old.waiting) })
  begin_fails : (time : ℕ) (day : D) (mid store : S) → IsClear old.waiting → old.waiting.durable ≤ at → days old.day time day → Chain keeps old.store (lay_down (Looked time at)) mid → keeps mid renewal_failed store
      → FailsToLook keeps days server at old (record { store = store; day = day; header = header_at old.header at time; waiting = none_waits at })
  renewal_fails : (time : ℕ) (day : D) (store : S) → IsClear old.waiting → old.waiting.durable ≤ at → days old.day time day → keeps old.store renewal_failed store
      → FailsToLook keeps days server at old (record { store = store; day = day; header = old.header; waiting = old.waiting })

-- ---- its parts

-- a new file that was begun is gone on with, or takes the file's place
pub data GoesOn {S : Type 0} (keeps : S → StoreCall → S → Type 0) (old new : S) : Type 0 where
  one_part : keeps old renewal_went_on new → GoesOn keeps old new
  last_part : keeps old renewed new → GoesOn keeps old new

-- the store fails where a line is laid down, and then a new file is begun
pub data FailsToBegin {S : Type 0} (keeps : S → StoreCall → S → Type 0) (line : Change) (waiting : WaitingValue) (old : S) : S → WaitingValue → Type 0 where
  at_line : (calls : List StoreCall) (new : S) → LineFails line calls → Chain keeps old calls new → FailsToBegin keeps line waiting old new (dropped (with_line line waiting))
  at_begin : (mid new : S) → Chain keeps old (lay_down line) mid → keeps mid renewal_failed new → FailsToBegin keeps line waiting old new (laid_down line waiting)
