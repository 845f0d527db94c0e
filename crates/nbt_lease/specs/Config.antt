-- The limits that a server and its nodes share, and the seconds that a lease is granted for (our profile).
use Rattle.std.specs.Prelude.{ℕ, ◌*◌, ◌^◌, ◌≤◌, zero, suc, min}

-- the last time of a clock, in milliseconds
abbrev pub last_moment : ℕ
last_moment = 2 ^ 60

-- the milliseconds of some seconds
abbrev pub milliseconds : (seconds : ℕ) → ℕ
milliseconds seconds = 1000 * seconds

-- which limits there are: the greatest life of a datagram, in milliseconds, the longest lease, in seconds, and the live
-- leases of a server
abbrev pub IsLife : ℕ → Type 0
IsLife life = (1 ≤ life) × (life ≤ 60000)

abbrev pub IsLongest : ℕ → Type 0
IsLongest longest = (1 ≤ longest) × (longest ≤ 1000000)

abbrev pub rows_most : ℕ
rows_most = 4096

abbrev pub IsRows : ℕ → Type 0
IsRows rows = (1 ≤ rows) × (rows ≤ rows_most)

-- the live leases of a large server
abbrev pub large_rows_most : ℕ
large_rows_most = 1048576

abbrev pub IsLargeRows : ℕ → Type 0
IsLargeRows rows = (1 ≤ rows) × (rows ≤ large_rows_most)

-- A configuration as contracts see it.
pub record ConfigValue : Type 0 where
  pub life : ℕ
  pub longest : ℕ
  pub rows : ℕ

abbrev pub config_of : ℕ → ℕ → ℕ → ConfigValue
config_of life longest rows = record { life = life; longest = longest; rows = rows }

pub record IsConfig (config : ConfigValue) : Type 0 where
  pub life : IsLife config.life
  pub longest : IsLongest config.longest
  pub rows : IsLargeRows config.rows

-- The seconds granted where ttl seconds are requested: the longest lease if ttl is 0, else the smaller of the two. A reply's ttl is read in the same way.
abbrev pub granted : ℕ → ℕ → ℕ
granted longest zero = longest
granted longest (suc n) = min (suc n) longest
