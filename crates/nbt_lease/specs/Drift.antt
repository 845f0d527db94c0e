-- Clocks that drift, and what a node allows for it (our profile).
use Rattle.std.specs.Prelude.{ℕ, ◌+◌, ◌-◌, ◌*◌, ◌/◌, ◌≤◌}
use Rattle.nbt_lease.specs.Config.{milliseconds}

-- The drift bound: while the true clock moved by `passed` ms, another moved by as many, but for a thousandth of them
-- and one millisecond. Any clock of a server or a node keeps it between any two times.
pub record IsWithinDrift (passed moved : ℕ) : Type 0 where
  pub ahead : 1000 * moved ≤ 1001 * passed + 1000
  pub back : 999 * passed ≤ 1000 * moved + 1000

-- The same between two times: the true clock goes from `true_then` to `true_now`, the other from `read_then` to `read_now`.
pub record KeepsDriftBound (true_then read_then true_now read_now : ℕ) : Type 0 where
  pub ahead : 1000 * read_now + 1001 * true_then ≤ 1000 * read_then + 1001 * true_now + 1000
  pub back : 999 * true_now + 1000 * read_then ≤ 999 * true_then + 1000 * read_now + 1000

-- How many milliseconds of its own clock a node holds a name for that was granted for these seconds: so few that the
-- server's clock has not gone through all of them, if the node's is as slow and the server's as fast as may be.
unfoldable pub hold : (seconds : ℕ) → ℕ
hold seconds = (milliseconds seconds - 1) * 999 / 1001 - 1

-- How many milliseconds of its own clock a name rests for: more than two lives, if the clock is as fast as may be.
unfoldable pub quiet : (life : ℕ) → ℕ
quiet life = 2 * life + 2 * life / 1000 + 2
