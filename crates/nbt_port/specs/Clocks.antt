-- The system's clocks: as much as can be said of them (our profile).
use Rattle.std.specs.Prelude.{◌≡◌, ℕ, ◌+◌, ◌/◌, ◌≤◌, nat_le, min, max, if◌then◌else◌, Option, Some, None, ⊤}
use Rattle.nbt_lease.specs.Config.{last_moment}
use Rattle.nbt_port.specs.declared.ahead.Ahead.{Ahead}

-- so many nanoseconds as a moment; none past the last moment
abbrev pub moment_in : (nanoseconds : ℕ) → Option ℕ
moment_in nanoseconds = if nat_le (nanoseconds / 1_000_000) last_moment then Some (nanoseconds / 1_000_000) else None

-- ---- the time of day

-- The clock keeps the moment that it told. Which one it tells, no contract can say.
abbrev pub MachineTells : (old moment new : ℕ) → Type 0
MachineTells old moment new = (new ≡ moment) × (moment ≤ last_moment)

-- ---- the monotonic clock

-- the later of the moment that was told last and one that is read, if one is
abbrev pub later_of : (last : ℕ) → Option ℕ → ℕ
later_of last None = last
later_of last (Some moment) = max last moment

-- The moment of a reading, in nanoseconds; that which was told last where the reading is earlier, is past the last moment,
-- or failed.
abbrev pub told_after : (last : ℕ) → (reading : Option ℕ) → ℕ
told_after last None = last
told_after last (Some nanoseconds) = later_of last (moment_in nanoseconds)

-- A steady clock never goes back. It keeps the moment that it told, and it tells that of what its machine shows.
pub record SteadyTells (shows : Option ℕ → Type 0) (old moment new : ℕ) : Type 0 where
  pub reading : Option ℕ
  pub shown : shows reading
  pub moment_is : moment ≡ told_after old reading
  pub never_back : old ≤ moment
  pub keeps : new ≡ moment

-- It begins at the moment of what its machine shows.
pub record SteadyBegins (shows : Option ℕ → Type 0) (first : ℕ) : Type 0 where
  pub nanoseconds : ℕ
  pub shown : shows (Some nanoseconds)
  pub first_is : moment_in nanoseconds ≡ Some first

-- What a system shows by its monotonic clock, no contract can say.
abbrev pub SystemShows : (reading : Option ℕ) → Type 0
SystemShows reading = ⊤

-- ---- a clock that is ahead of another

-- so many milliseconds later, and at most the last moment
abbrev pub ahead_of : (moment by : ℕ) → ℕ
ahead_of moment by = min (moment + by) last_moment

-- It tells what the other clock tells, so many milliseconds later.
pub record TellsAhead {C : Type 0} (tells : C → ℕ → C → Type 0) (old : Ahead C) (moment : ℕ) (new : Ahead C) : Type 0 where
  pub other : ℕ
  pub told : tells old.clock other new.clock
  pub moment_is : moment ≡ ahead_of other old.by
  pub stays : new.by ≡ old.by
