-- One turn of a host, and what is printed of it (our profile).
use Rattle.std.specs.Prelude.{◌≡◌, ◌⊎◌, ℕ, Bool, true, ◌||◌, is_some, List, ◌++◌, Option}
use Rattle.std.specs.Io.KnownBytes.{Appends}
use Rattle.nbt_port.specs.PortCalls.{PortCall, Chain}
use Rattle.nbt_log.specs.Dates.{second_at}
use Rattle.nbt_host.specs.Hosting.{HostValue, Terms, HostTurn, HostBreaks}
use Rattle.nbt_host.specs.Sleeping.{last_of}
use Rattle.nbt_host.specs.declared.watching.Look.{Look}
use Rattle.nbt_host.specs.Host.{HostingValue, Running, terms_of, dates_of, going_on_with, moved}
use Rattle.nbt_host.specs.Servers.{noted_of, after_turn}
use Rattle.nbt_host.specs.TurnLines.{TellsTurn, IsChangeLine, has_lines}
use Rattle.nbt_host.specs.declared.arguments.HostArguments.{HostArguments}
use Rattle.nbt_host.specs.declared.host.Shown.{Shown}

-- A turn at the server that is asked goes well, or the device fails in it; after it the steady clock is read. What it shows is that
-- moment, and whether the machine slept.
pub record GoesThrough {P K : Type 0} (turns : Terms → HostValue → List PortCall → List Look → HostValue → Type 0)
    (does : P → PortCall → P → Type 0) (tells : K → ℕ → K → Type 0) (looks : K → Look → K → Type 0) (a : HostArguments)
    (old_port : P) (old : HostingValue K) (shown : Shown) (port : P) (new : HostingValue K) : Type 0 where
  pub acts : List PortCall
  pub seen : List Look
  pub mid : K
  pub turn : turns (terms_of a old.asked) old.host acts seen new.host
  pub last_is : new.last ≡ last_of old.last seen
  pub asked_is : new.asked ≡ after_turn (noted_of old.asked.server acts) new.last.at old.asked
  pub port_did : Chain does old_port acts port
  pub looked : Chain looks old.watch seen mid
  pub told : tells mid shown.at new.watch
  pub slept_is : shown.slept ≡ new.last.slept

abbrev pub TakesTurn : {P K : Type 0} → (P → PortCall → P → Type 0) → (K → ℕ → K → Type 0) → (K → Look → K → Type 0) → HostArguments → P → HostingValue K → Shown → P → HostingValue K → Type 0
TakesTurn does tells looks a old_port old shown port new = GoesThrough HostTurn does tells looks a old_port old shown port new

abbrev pub BreaksTurn : {P K : Type 0} → (P → PortCall → P → Type 0) → (K → ℕ → K → Type 0) → (K → Look → K → Type 0) → HostArguments → P → HostingValue K → Shown → P → HostingValue K → Type 0
BreaksTurn does tells looks a old_port old shown port new = GoesThrough HostBreaks does tells looks a old_port old shown port new

-- The lines of what was shown are printed, dated by the moment after the turn, and last that another server is asked, if one is.
abbrev pub PrintsTurn : {K : Type 0} → HostArguments → Shown → HostingValue K → (old_text text : Option (List ℕ)) → Type 0
PrintsTurn a shown h old_text text = (lines : List ℕ) × (change : List ℕ) × TellsTurn (second_at (dates_of h.last) shown.at) a.log h.asked.server shown.slept h.host.goals lines
    × IsChangeLine (second_at (dates_of h.last) shown.at) a.config.longest h.asked.server (going_on_with a h) change × Appends old_text text (lines ++ change)

-- there are some
abbrev pub prints_lines : {K : Type 0} → HostArguments → Shown → HostingValue K → Bool
prints_lines a shown h = is_some (going_on_with a h) || has_lines a.log shown.slept h.host.goals

-- After a turn and its lines the host asks another server, if the one before is silent.
abbrev pub TurnsWell : {P K : Type 0} → (P → PortCall → P → Type 0) → (K → ℕ → K → Type 0) → (K → Look → K → Type 0) → HostArguments → Running P K → Shown → Running P K → Type 0
TurnsWell {K = K} does tells looks a old shown new = (turned : HostingValue K) × TakesTurn does tells looks a old.port old.host shown new.port turned
    × PrintsTurn a shown turned old.text new.text × (new.host ≡ moved a turned)

abbrev pub TurnsBadly : {P K : Type 0} → (P → PortCall → P → Type 0) → (K → ℕ → K → Type 0) → (K → Look → K → Type 0) → HostArguments → Running P K → Running P K → Type 0
TurnsBadly {K = K} does tells looks a old new = (shown : Shown) × (turned : HostingValue K) × BreaksTurn does tells looks a old.port old.host shown new.port turned
    × PrintsTurn a shown turned old.text new.text × (new.host ≡ moved a turned)

-- There are lines, and they can't be printed. What stands in the text then isn't said, and no other server is asked.
abbrev pub TurnIsCut : {P K : Type 0} → (P → PortCall → P → Type 0) → (K → ℕ → K → Type 0) → (K → Look → K → Type 0) → HostArguments → Running P K → Running P K → Type 0
TurnIsCut does tells looks a old new = (shown : Shown) × (prints_lines a shown new.host ≡ true)
    × (TakesTurn does tells looks a old.port old.host shown new.port new.host ⊎ BreaksTurn does tells looks a old.port old.host shown new.port new.host)
