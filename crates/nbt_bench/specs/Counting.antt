-- Moments that a program counts itself (our profile).
use Rattle.std.specs.Prelude.{◌≡◌, ℕ, ◌+◌, min}
use Rattle.nbt_lease.specs.Config.{last_moment}

-- the clock tells the moment that is next; the one after it is a millisecond later, but never past the last moment
pub record CountsOn (next moment after : ℕ) : Type 0 where
  pub moment_is : moment ≡ next
  pub after_is : after ≡ min (next + 1) last_moment
