-- Clocks that drift: the true one and what each end reads, how they go on, and what a world keeps to tell whether the
-- readings kept the drift bound so far, and whether they were timely (our profile).
use Rattle.std.specs.Prelude.{ℕ, ◌≢◌, ◌+◌, ◌-◌, ◌*◌, ◌≤◌, min, List, slice_index_or}
use Rattle.nbt_lease.specs.Config.{last_moment}
use Rattle.nbt_lease.specs.Drift.{KeepsDriftBound}
use Rattle.nbt_world.specs.declared.clocks.Clocks.{Clocks}
use Rattle.nbt_world.specs.declared.clocks.Least.{Least}

-- what the end of this number reads: 0 is the server, and the nodes are numbered from 1
abbrev pub reading : Clocks → (number : ℕ) → ℕ
reading clocks number = slice_index_or clocks.readings number 0

-- a clock goes on, at most to its last moment
abbrev pub later : (moment ms : ℕ) → ℕ
later moment ms = min (moment + ms) last_moment

-- The end's reading kept the drift bound between these two moments.
abbrev pub IsBounded : (early late : Clocks) → (number : ℕ) → Type 0
IsBounded early late number = KeepsDriftBound early.clock (reading early number) late.clock (reading late number)

-- The upper side of the drift bound: a clock wasn't faster than the bound lets it be.
abbrev pub IsNotAhead : (true_then read_then true_now read_now : ℕ) → Type 0
IsNotAhead true_then read_then true_now read_now = 1000 * read_now + 1001 * true_then ≤ 1000 * read_then + 1001 * true_now + 1000

-- Its lower side: it wasn't slower.
abbrev pub IsNotBehind : (true_then read_then true_now read_now : ℕ) → Type 0
IsNotBehind true_then read_then true_now read_now = 999 * true_now + 1000 * read_then ≤ 999 * true_then + 1000 * read_now + 1000

-- The end's clock was timely between the two: it wasn't too fast, and a node's wasn't too slow. The server's may be slow by any
-- time, or stand still.
pub record IsTimely (early late : Clocks) (number : ℕ) : Type 0 where
  pub ahead : IsNotAhead early.clock (reading early number) late.clock (reading late number)
  pub back : number ≢ 0 → IsNotBehind early.clock (reading early number) late.clock (reading late number)

-- With D the true clock and C the reading: 1000 * C - 1001 * D, and 999 * D - 1000 * C, each more by what makes it a
-- natural number. Neither grows by more than 1,000 while the bound is kept.
abbrev pub ahead : Clocks → (number : ℕ) → ℕ
ahead clocks number = 1000 * reading clocks number + 1001 * (last_moment - clocks.clock)

abbrev pub behind : Clocks → (number : ℕ) → ℕ
behind clocks number = 999 * clocks.clock + 1000 * (last_moment - reading clocks number)

-- the least of them so far, of the end of this number
abbrev pub least_of : List Least → (number : ℕ) → Least
least_of all number = slice_index_or all number (record { ahead = 0; behind = 0 })

abbrev pub numbers_of : Clocks → (number : ℕ) → Least
numbers_of clocks number = record { ahead = ahead clocks number; behind = behind clocks number }

abbrev pub lesser : Least → Least → Least
lesser a b = record { ahead = min a.ahead b.ahead; behind = min a.behind b.behind }

-- neither is more than 1,000 above the least so far
pub record IsAllowed (least : Least) (clocks : Clocks) (number : ℕ) : Type 0 where
  pub not_ahead : ahead clocks number ≤ least.ahead + 1000
  pub not_behind : behind clocks number ≤ least.behind + 1000

-- the first isn't, and of a node the second isn't either
pub record IsAllowedTimely (least : Least) (clocks : Clocks) (number : ℕ) : Type 0 where
  pub not_ahead : ahead clocks number ≤ least.ahead + 1000
  pub not_behind : number ≢ 0 → behind clocks number ≤ least.behind + 1000
