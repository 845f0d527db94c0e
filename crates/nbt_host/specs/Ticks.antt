-- The readings of a machine's two clocks, in their order (our profile).
use Rattle.std.specs.Prelude.{◌≡◌, ℕ, List, [], ◌∷◌}
use Rattle.nbt_host.specs.declared.sleeping.Reading.{Reading}

-- what is read: the steady clock, or the time of day
pub data Tick : Type 0 where
  steady_told : (moment : ℕ) → Tick
  day_told : (moment : ℕ) → Tick

-- Two clocks beside one another: one is read, and the other stays.
abbrev pub BothTell : {C D : Type 0} → (C → ℕ → C → Type 0) → (D → ℕ → D → Type 0) → C × D → Tick → C × D → Type 0
BothTell tells tells_day old (steady_told moment) new = tells old.0 moment new.0 × (new.1 ≡ old.1)
BothTell tells tells_day old (day_told moment) new = tells_day old.1 moment new.1 × (new.0 ≡ old.0)

-- the steady clock, then the time of day, then the steady clock again
abbrev pub ticks_of : Reading → List Tick
ticks_of reading = steady_told reading.before ∷ day_told reading.day ∷ steady_told reading.after ∷ []
