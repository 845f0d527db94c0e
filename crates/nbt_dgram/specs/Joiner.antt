-- A joiner of fragments: what a packet does to it, and what it reports (our profile, after RFC 1002 section 5.3.3).
use Rattle.std.specs.Prelude.{◌≡◌, ℕ, ◌+◌, ◌<◌, ◌≤◌, Bool, true, false, ◌&&◌, nat_eq, nat_lt, if◌then◌else◌, List, map, slice_set, slice_get, count_by, Option, Some, None}
use Rattle.std.specs.List.{position}
use Rattle.nbt_dgram.specs.declared.dgram.Names.{Names}
use Rattle.nbt_dgram.specs.declared.dgram.Part.TheVariants.{First}
use Rattle.nbt_dgram.specs.declared.slot.Key.{Key}
use Rattle.nbt_dgram.specs.declared.slot.Slot.{Slot}
use Rattle.nbt_dgram.specs.declared.joined.Dropped.{Dropped}
use Rattle.nbt_dgram.specs.declared.joined.Dropped.TheVariants as reasons
use Rattle.nbt_dgram.specs.declared.joined.Joined.{Joined}
use Rattle.nbt_dgram.specs.declared.joined.Joined.TheVariants as m
use Rattle.nbt_dgram.specs.Dgram.{FragmentValue, fragment, DgramValue}
use Rattle.nbt_dgram.specs.Fragments.{end_of}
use Rattle.nbt_dgram.specs.Slot.{fresh, Agrees, joined, IsWhole}

-- What a packet led to.
pub data JoinedValue : Type 0 where
  whole : Names → List ℕ → JoinedValue
  waiting : JoinedValue
  dropped : Dropped → JoinedValue

abbrev pub joined_of : Joined → JoinedValue
joined_of (m.Whole names payload) = whole names payload.now
joined_of m.Waiting = waiting
joined_of (m.Dropped reason) = dropped reason

-- ---- slots, of which each is free or has an unfinished datagram

-- it is too old: more than 2,000 ms have passed since it began
abbrev pub is_old : ℕ → Option Slot → Bool
is_old now None = false
is_old now (Some s) = nat_lt (s.began + 2000) now

abbrev pub kept : ℕ → Option Slot → Option Slot
kept now slot = if is_old now slot then None else slot

-- it is the slot of this SOURCE_IP, SOURCE_PORT and DGM_ID
abbrev pub is_of : Key → Option Slot → Bool
is_of key None = false
is_of key (Some s) = nat_eq s.key.id key.id && (nat_eq s.key.source.ip key.source.ip && nat_eq s.key.source.port key.source.port)

abbrev pub emptied : Key → Option Slot → Option Slot
emptied key slot = if is_of key slot then None else slot

abbrev pub is_free : Option Slot → Bool
is_free None = true
is_free (Some s) = false

-- What a fragment does to the slots.
pub data Joins (slots : List (Option Slot)) (now : ℕ) (key : Key) (f : FragmentValue) : JoinedValue → List (Option Slot) → Type 0 where
  too_long : 512 < end_of f → Joins slots now key f (dropped reasons.TooLong) (map (emptied key) slots)
  no_room : end_of f ≤ 512 → position (is_of key) slots ≡ None → position is_free slots ≡ None → Joins slots now key f (dropped reasons.Full) slots
  begins : (place : ℕ) → end_of f ≤ 512 → position (is_of key) slots ≡ None → position is_free slots ≡ Some place
      → Joins slots now key f waiting (slice_set slots place (Some (joined f (fresh key now f.delivery))))
  conflicts : (place : ℕ) (s : Slot) → end_of f ≤ 512 → position (is_of key) slots ≡ Some place → slice_get slots place ≡ Some (Some s) → ¬ Agrees s f
      → Joins slots now key f (dropped reasons.Conflict) (map (emptied key) slots)
  waits : (place : ℕ) (s : Slot) → end_of f ≤ 512 → position (is_of key) slots ≡ Some place → slice_get slots place ≡ Some (Some s) → Agrees s f
      → ((names : Names) (payload : List ℕ) → ¬ IsWhole (joined f s) names payload) → Joins slots now key f waiting (slice_set slots place (Some (joined f s)))
  completes : (place : ℕ) (s : Slot) (names : Names) (payload : List ℕ) → end_of f ≤ 512 → position (is_of key) slots ≡ Some place → slice_get slots place ≡ Some (Some s) → Agrees s f
      → IsWhole (joined f s) names payload → Joins slots now key f (whole names payload) (map (emptied key) slots)

-- ---- a joiner: the time of the last packet or sweep, at first 0, and the slots

pub record JoinerValue : Type 0 where
  pub last : ℕ
  pub slots : List (Option Slot)

abbrev pub joiner_of : ℕ → List (Option Slot) → JoinerValue
joiner_of last slots = record { last = last; slots = slots }

-- a datagram with data, whole or a fragment
abbrev pub IsData : DgramValue → Type 0
IsData d = (f : FragmentValue) × (d.body ≡ fragment f)

abbrev pub key_of : DgramValue → Key
key_of d = record { source = d.source; id = d.id }

-- What a packet does to a joiner: nothing where the clock went back. Otherwise what is too old is given up. A packet
-- that is first and last is whole at once, and touches no slot; any other joins the slots.
pub data Puts (old : JoinerValue) (now : ℕ) (d : DgramValue) : JoinedValue → JoinerValue → Type 0 where
  clock_back : now < old.last → Puts old now d (dropped reasons.ClockBack) old
  alone : (f : FragmentValue) (names : Names) → old.last ≤ now → d.body ≡ fragment f → f.part ≡ First names → f.more ≡ false
      → Puts old now d (whole names f.payload) (joiner_of now (map (kept now) old.slots))
  joins : (f : FragmentValue) (outcome : JoinedValue) (slots : List (Option Slot)) → old.last ≤ now → d.body ≡ fragment f → ((names : Names) → f.part ≡ First names → f.more ≡ true)
      → Joins (map (kept now) old.slots) now (key_of d) f outcome slots → Puts old now d outcome (joiner_of now slots)

-- What a sweep does: nothing where the clock went back; otherwise what is too old is given up and counted.
pub data Sweeps (old : JoinerValue) (now : ℕ) : ℕ → JoinerValue → Type 0 where
  too_early : now < old.last → Sweeps old now 0 old
  given_up : old.last ≤ now → Sweeps old now (count_by (is_old now) old.slots) (joiner_of now (map (kept now) old.slots))
