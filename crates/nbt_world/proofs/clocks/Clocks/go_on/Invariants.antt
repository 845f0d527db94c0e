-- The readings below the number went on, and the others are as they were.
use Rattle.std.proofs.Common.{◌≡◌, ℕ, ◌<◌, ◌≤◌, slice_index}
use Rattle.nbt_world.specs.Drift.{later}
use Rattle.nbt_world.proofs.clocks.Clocks.go_on.Given as goal

abbrev pub invariant-loop-number : goal.invariant-loop-number
invariant-loop-number l = (l.self.clock ≡ later l.fn.self.clock l.fn.ms)
    × ((n : ℕ) → n < l.number → slice_index l.self.readings n ≡ later (slice_index l.fn.self.readings n) (slice_index l.fn.moves n))
    × ((n : ℕ) → l.number ≤ n → slice_index l.self.readings n ≡ slice_index l.fn.self.readings n)
