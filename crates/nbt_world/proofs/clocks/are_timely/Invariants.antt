-- The ends below the number are timely, or one isn't.
use Rattle.std.proofs.Common.{ℕ, ◌<◌, ◌↔◌, IsTrue}
use Rattle.nbt_world.specs.Drift.{least_of, IsAllowedTimely}
use Rattle.nbt_world.proofs.clocks.are_timely.Given as goal

abbrev pub invariant-loop-number : goal.invariant-loop-number
invariant-loop-number l = IsTrue l.timely ↔ ((n : ℕ) → n < l.number → IsAllowedTimely (least_of l.least n) l.clocks n)
