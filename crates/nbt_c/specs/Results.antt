-- What a call returns beside the numbers of faults, and what it puts into the caller's buffer (our profile).
use Rattle.std.specs.Prelude.{◌≡◌, ℕ, ◌-◌, List, ◌++◌, length, take, drop, replicate, Option, Some, None}

-- a name is due, and none is held
abbrev pub no_name : ℕ
no_name = 255

-- a buffer is too small
abbrev pub no_room : ℕ
no_room = 254

-- a time is above 2^60 milliseconds
abbrev pub no_moment : ℕ
no_moment = 253

-- a kind is none of those that the call takes
abbrev pub no_kind : ℕ
no_kind = 252

-- a place is behind the octets
abbrev pub no_place : ℕ
no_place = 251

-- there are no more leases
abbrev pub no_lease : ℕ
no_lease = 250

-- there is no time at which something is due
abbrev pub nothing_due : ℕ
nothing_due = 249

-- a time stands where the caller asked for it; where there is none, what stood there stays
abbrev pub TellsTime : Option ℕ → (before result after : ℕ) → Type 0
TellsTime None before result after = (result ≡ nothing_due) × (after ≡ before)
TellsTime (Some time) before result after = (result ≡ 0) × (after ≡ time)

-- The octets stand at the front of the buffer, the others staying, and they are counted.
pub record Puts (octets before after : List ℕ) (size : ℕ) : Type 0 where
  pub after_is : after ≡ octets ++ drop (length octets) before
  pub size_is : size ≡ length octets

-- the octets of an answer stand so in the caller's buffer
abbrev pub Leaves : (before after : List ℕ) (size : ℕ) → (Answers : List ℕ → Type 0) → Type 0
Leaves before after size Answers = (octets : List ℕ) × Answers octets × Puts octets before after size

-- as many of them as fit
abbrev pub PutsMost : (octets before after : List ℕ) → Type 0
PutsMost octets before after = after ≡ take (length before) octets ++ drop (length octets) before

-- words in 64 octets, zeros behind them
abbrev pub ended : List ℕ → List ℕ
ended words = words ++ replicate (64 - length words) 0

-- the version, 0.1.0: 10,000 for each MAJOR, 100 for each MINOR, and 1 for each PATCH
abbrev pub version : ℕ
version = 100
