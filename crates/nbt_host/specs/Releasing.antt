-- How a host gives its names back, turn by turn (our profile; RFC 1002 section 5.1.2.5).
use Rattle.std.specs.Prelude.{◌≡◌, ℕ, ◌+◌, ◌<◌, Bool, true, false, List, map, length}
use Rattle.std.specs.List.{list_any}
use Rattle.nbt_port.specs.PortCalls.{PortCall, Chain}
use Rattle.nbt_host.specs.declared.goal.Goal.{Goal}
use Rattle.nbt_host.specs.declared.goal.Stage.{Stage}
use Rattle.nbt_host.specs.declared.goal.Stage.TheVariants.{Leaving, Released}
use Rattle.nbt_host.specs.declared.watching.Look.{Look}
use Rattle.nbt_host.specs.Hosting.{HostValue, Terms, HostTurn, HostBreaks}
use Rattle.nbt_host.specs.Sleeping.{last_of}

-- for so many milliseconds at most it waits for the replies: three sendings, and 5 s after each (RFC 1002 section 6)
abbrev pub giving_back : ℕ
giving_back = 15000

-- a name is to be given back
abbrev pub leaving : Goal → Goal
leaving goal = record goal { stage = Leaving }

-- it is given back, and no reply has come
abbrev pub is_open : Goal → Bool
is_open goal = waits goal.stage
  where
    waits : Stage → Bool
    waits Released = true
    waits stage = false

-- a host with a port and its machine's clocks, and what they told last
pub record Releasing (P K : Type 0) : Type 0 where
  pub port : P
  pub watch : K
  pub last : Look
  pub host : HostValue

-- A turn, and the reading of the steady clock after it.
abbrev pub Turns : {P K : Type 0} → (P → PortCall → P → Type 0) → (K → ℕ → K → Type 0) → (K → Look → K → Type 0) → Terms → Releasing P K → (at : ℕ) → Releasing P K → Type 0
Turns {K = K} does tells looks t old at new = (acts : List PortCall) × (seen : List Look) × (mid : K) × HostTurn t old.host acts seen new.host × (new.last ≡ last_of old.last seen)
    × Chain does old.port acts new.port × Chain looks old.watch seen mid × tells mid at new.watch

-- A turn in which the device fails.
abbrev pub Breaks : {P K : Type 0} → (P → PortCall → P → Type 0) → (K → Look → K → Type 0) → Terms → Releasing P K → Releasing P K → Type 0
Breaks does looks t old new = (acts : List PortCall) × (seen : List Look) × HostBreaks t old.host acts seen new.host × (new.last ≡ last_of old.last seen)
    × Chain does old.port acts new.port × Chain looks old.watch seen new.watch

-- The ending goes on while a reply to a release is waited for and the moment is before the limit.
pub record GoesOn (limit : ℕ) (goals : List Goal) (at : ℕ) : Type 0 where
  pub early : at < limit
  pub waits : list_any is_open goals ≡ true

-- a turn after which it does
abbrev pub TurnsOn : {P K : Type 0} → (P → PortCall → P → Type 0) → (K → ℕ → K → Type 0) → (K → Look → K → Type 0) → Terms → (limit : ℕ) → Releasing P K → (at : ℕ) → Releasing P K → Type 0
TurnsOn does tells looks t limit old at new = Turns does tells looks t old at new × GoesOn limit new.host.goals at

-- Turns after which it goes on, and then one after which it doesn't; or as many as it may take.
pub data Ended {P K : Type 0} (does : P → PortCall → P → Type 0) (tells : K → ℕ → K → Type 0) (looks : K → Look → K → Type 0) (t : Terms) (limit most : ℕ) (old new : Releasing P K) : Type 0 where
  is_over : (times : List ℕ) (at : ℕ) (mid : Releasing P K) → Chain (TurnsOn does tells looks t limit) old times mid → Turns does tells looks t mid at new → ¬ GoesOn limit new.host.goals at
      → Ended does tells looks t limit most old new
  is_spent : (times : List ℕ) → Chain (TurnsOn does tells looks t limit) old times new → length times ≡ most → Ended does tells looks t limit most old new

-- Turns after which it goes on, fewer than all, and then one in which the device fails.
pub record Broken {P K : Type 0} (does : P → PortCall → P → Type 0) (tells : K → ℕ → K → Type 0) (looks : K → Look → K → Type 0) (t : Terms) (limit most : ℕ) (old new : Releasing P K) : Type 0 where
  pub times : List ℕ
  pub mid : Releasing P K
  pub goes_on : Chain (TurnsOn does tells looks t limit) old times mid
  pub breaks : Breaks does looks t mid new
  pub fewer : length times < most

-- The steady clock is read, all names are to be given back, and from there it goes on, with a limit 15 s after that moment.
pub record Leaves {P K : Type 0} (tells : K → ℕ → K → Type 0) (goes : (limit : ℕ) → Releasing P K → Releasing P K → Type 0) (old new : Releasing P K) : Type 0 where
  pub now : ℕ
  pub read : K
  pub told : tells old.watch now read
  pub goes_on : goes (now + giving_back) (record old { watch = read; host = record old.host { goals = map leaving old.host.goals } }) new

abbrev pub GivesAllBack : {P K : Type 0} → (P → PortCall → P → Type 0) → (K → ℕ → K → Type 0) → (K → Look → K → Type 0) → Terms → (most : ℕ) → Releasing P K → Releasing P K → Type 0
GivesAllBack does tells looks t most old new = Leaves tells (λ limit left end. Ended does tells looks t limit most left end) old new

abbrev pub FailsToGiveBack : {P K : Type 0} → (P → PortCall → P → Type 0) → (K → ℕ → K → Type 0) → (K → Look → K → Type 0) → Terms → (most : ℕ) → Releasing P K → Releasing P K → Type 0
FailsToGiveBack does tells looks t most old new = Leaves tells (λ limit left end. Broken does tells looks t limit most left end) old new
