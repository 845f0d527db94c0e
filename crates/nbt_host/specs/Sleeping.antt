-- When a machine slept, by its two clocks (our profile).
use Rattle.std.specs.Prelude.{◌≡◌, ℕ, ◌+◌, ◌*◌, nat_lt, Bool, false, ◌||◌, if◌then◌else◌, List, [], ◌∷◌, Option, Some, None}
use Rattle.nbt_port.specs.PortCalls.{Chain}
use Rattle.nbt_host.specs.declared.sleeping.Reading.{Reading}
use Rattle.nbt_host.specs.declared.watching.Look.{Look}
use Rattle.nbt_host.specs.declared.watching.WatchedClocks.{WatchedClocks}
use Rattle.nbt_host.specs.Ticks.{BothTell, ticks_of}

-- by more than so many milliseconds the time of day goes beyond a steady clock where the machine slept
abbrev pub sleep_most : ℕ
sleep_most = 200

-- a reading of both clocks
abbrev pub Reads : {C D : Type 0} → (C → ℕ → C → Type 0) → (D → ℕ → D → Type 0) → C → D → Reading → C → D → Type 0
Reads tells tells_day old old_day reading new new_day = Chain (BothTell tells tells_day) (old, old_day) (ticks_of reading) (new, new_day)

-- From the one reading to the other the time of day went more than 200 ms, and a thousandth, beyond what the steady clock went
-- from before the one to after the other.
abbrev pub has_slept : (earlier later : Reading) → Bool
has_slept earlier later = nat_lt (1000 * earlier.day + 1001 * later.after + 1000 * sleep_most) (1000 * later.day + 1001 * earlier.before)

-- ---- the looks of a host's life

-- Of two readings, the one since which a sleep shows first: by it the time of day was further back against the steady clock.
abbrev pub anchor_of : (anchor reading : Reading) → Reading
anchor_of anchor reading = if nat_lt (1000 * reading.day + 1001 * anchor.before) (1000 * anchor.day + 1001 * reading.before) then reading else anchor

-- of some readings
abbrev pub anchor_since : Reading → List Reading → Reading
anchor_since first [] = first
anchor_since first (reading ∷ more) = anchor_since (anchor_of first reading) more

-- the anchor after one reading more, and after a sleep
abbrev pub next_anchor : (slept : Bool) → Option Reading → Reading → Reading
next_anchor slept None reading = reading
next_anchor slept (Some anchor) reading = if slept then reading else anchor_of anchor reading

-- the machine slept since the anchor, if there is one
abbrev pub slept_since : Option Reading → Reading → Bool
slept_since None reading = false
slept_since (Some anchor) reading = has_slept anchor reading

-- A look at both clocks, and whether the machine slept since an earlier look: any of those since the host began, or since the last
-- sleep.
pub record LooksAt {C D : Type 0} (tells : C → ℕ → C → Type 0) (tells_day : D → ℕ → D → Type 0) (old : WatchedClocks C D) (look : Look) (new : WatchedClocks C D) : Type 0 where
  pub reading : Reading
  pub reads : Reads tells tells_day old.clocks.steady old.clocks.day reading new.clocks.steady new.clocks.day
  pub slept_is : look.slept ≡ slept_since old.anchor reading
  pub anchor_is : new.anchor ≡ Some (next_anchor look.slept old.anchor reading)
  pub at_is : look.at ≡ reading.after
  pub day_is : look.day ≡ reading.day
  pub salt_is : look.salt ≡ old.salt
  pub salt_stays : new.salt ≡ old.salt

-- the steady clock alone is read
abbrev pub SteadyAlone : {C D : Type 0} → (C → ℕ → C → Type 0) → WatchedClocks C D → (moment : ℕ) → WatchedClocks C D → Type 0
SteadyAlone tells old moment new = tells old.clocks.steady moment new.clocks.steady × (new.clocks.day ≡ old.clocks.day) × (new.anchor ≡ old.anchor)

-- clocks that were not looked at yet
abbrev pub unwatched : {C D : Type 0} → C → D → (salt : ℕ) → WatchedClocks C D
unwatched steady day salt = record { clocks = record { steady = steady; day = day }; anchor = None; salt = salt }

-- ---- the looks of a turn

-- The last one of a turn. The machine slept in the turn if any of its looks says so.
abbrev pub with_earlier : (first second : Look) → Look
with_earlier first second = record second { slept = first.slept || second.slept }

abbrev pub last_of : Look → List Look → Look
last_of old [] = old
last_of old (first ∷ []) = first
last_of old (first ∷ second ∷ more) = with_earlier first second
