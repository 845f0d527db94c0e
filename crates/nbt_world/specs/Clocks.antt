-- What the clocks of a run come to from any world, and where no event moves them apart.
use Rattle.std.specs.Prelude.{◌≡◌, ℕ, ◌<◌, ◌↔◌, IsTrue, List, slice_get, Some, All}
use Rattle.nbt_lease.specs.Config.{last_moment}
use Rattle.nbt_world.specs.declared.clocks.Least.{Least}
use Rattle.nbt_world.specs.declared.event.Event.{Event}
use Rattle.nbt_world.specs.declared.event.Event.TheVariants.{Advance}
use Rattle.nbt_world.specs.Drift.{reading, least_of, IsAllowed, IsAllowedTimely}
use Rattle.nbt_world.specs.World.{WorldValue, IsEnd}
use Rattle.nbt_world.specs.Safety.{IsSafe, KeepDriftBound, AreTimely}

-- ---- from any world

-- Each of these worlds keeps the bound to these least numbers.
abbrev pub KeepBoundTo : List Least → List WorldValue → Type 0
KeepBoundTo least worlds = (index : ℕ) (world : WorldValue) → slice_get worlds index ≡ Some world → (number : ℕ) → IsEnd world.ends number → IsAllowed (least_of least number) world.now number

-- Each of them is timely to these least numbers.
abbrev pub AreTimelyTo : List Least → List WorldValue → Type 0
AreTimelyTo least worlds = (index : ℕ) (world : WorldValue) → slice_get worlds index ≡ Some world → (number : ℕ) → IsEnd world.ends number → IsAllowedTimely (least_of least number) world.now number

-- ---- clocks that no event moves apart

-- all ends read the true clock
abbrev pub IsInStep : WorldValue → Type 0
IsInStep world = (number : ℕ) → IsEnd world.ends number → reading world.now number ≡ world.now.clock

-- the event may move the clocks apart
abbrev pub LetsClocksDrift : Event → Type 0
LetsClocksDrift (Advance ms readings) = Unit {0}
LetsClocksDrift _ = ⊥

-- no event does: each one that moves the clocks moves all of them by the same
abbrev pub MoveClocksAlike : List Event → Type 0
MoveClocksAlike events = All (λ event. LetsClocksDrift event → ⊥) events

-- No clock has come to its last moment, at which it stops.
abbrev pub NoClockStopped : WorldValue → Type 0
NoClockStopped world = (world.now.clock < last_moment) × ((number : ℕ) → IsEnd world.ends number → reading world.now number < last_moment)

-- each of these worlds in which no clock has stopped kept the bound, and is safe
abbrev pub AreKeptUntilClocksStop : List WorldValue → Type 0
AreKeptUntilClocksStop worlds = All (λ world. NoClockStopped world → IsTrue world.kept × IsSafe world) worlds

-- all of them are safe
abbrev pub AreSafe : List WorldValue → Type 0
AreSafe worlds = All IsSafe worlds

-- From any world, `kept` is true exactly if it was before, and the readings kept the bound between any two of these worlds and to the
-- least numbers of before; `timely` likewise. Where no event moves the clocks apart, all worlds are safe if all ends read the true clock
-- at first; and whatever they read, from a world that kept the bound all keep it, and are safe, until a clock stops.
pub record RunsByClocks (events : List Event) (old : WorldValue) (worlds : List WorldValue) (new : WorldValue) : Type 0 where
  pub told_on : IsTrue new.kept ↔ (IsTrue old.kept × KeepBoundTo old.least worlds × KeepDriftBound worlds)
  pub told_on_timely : IsTrue new.timely ↔ (IsTrue old.timely × AreTimelyTo old.least worlds × AreTimely worlds)
  pub one_clock : IsTrue old.kept → IsInStep old → MoveClocksAlike events → AreSafe worlds
  pub alike : IsTrue old.kept → MoveClocksAlike events → AreKeptUntilClocksStop worlds
