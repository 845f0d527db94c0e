-- What the joiner's private functions do to a slot, and to the slots.
use Rattle.std.specs.Prelude.{◌≡◌, ℕ, ◌<◌, List, length, slice_set, slice_get, Option, Some, None}
use Rattle.std.specs.List.{position}
use Rattle.nbt_dgram.specs.declared.dgram.Names.{Names}
use Rattle.nbt_dgram.specs.declared.slot.Key.{Key}
use Rattle.nbt_dgram.specs.declared.slot.Slot.{Slot}
use Rattle.nbt_dgram.specs.declared.joined.Dropped.TheVariants as reasons
use Rattle.nbt_dgram.specs.declared.joined.Step.{Step}
use Rattle.nbt_dgram.specs.declared.joined.Step.TheVariants as steps
use Rattle.nbt_dgram.specs.declared.reassembly.Reassembly.{Reassembly}
use Rattle.nbt_dgram.specs.Dgram.{FragmentValue}
use Rattle.nbt_dgram.specs.Slot.{fresh, Agrees, joined, IsWhole}
use Rattle.nbt_dgram.specs.Joiner.{JoinedValue, whole, waiting, dropped, is_free}

-- what a step led to, with what stands in the room
abbrev pub led_to : Step → Reassembly → JoinedValue
led_to steps.Whole room = whole room.names room.data.items
led_to steps.Waiting room = waiting
led_to (steps.Dropped reason) room = dropped reason

-- one slot that a fragment joins, where it agrees
pub data JoinsSlot (s : Slot) (f : FragmentValue) : JoinedValue → Slot → Type 0 where
  disagrees : ¬ Agrees s f → JoinsSlot s f (dropped reasons.Conflict) s
  unfinished : Agrees s f → ((names : Names) (payload : List ℕ) → ¬ IsWhole (joined f s) names payload) → JoinsSlot s f waiting (joined f s)
  finished : (names : Names) (payload : List ℕ) → Agrees s f → IsWhole (joined f s) names payload → JoinsSlot s f (whole names payload) (joined f s)

-- the octets that a slot knows are of 512
abbrev pub HasRoom : Option Slot → Type 0
HasRoom None = Unit {0}
HasRoom (Some s) = length s.octets ≡ 512

-- the slot in a place
pub record IsTaken (slots : List (Option Slot)) (place : ℕ) : Type 0 where
  pub slot : Slot
  pub within : place < length slots
  pub there : slice_get slots place ≡ Some (Some slot)

pub record JoinsAt (slots : List (Option Slot)) (place : ℕ) (f : FragmentValue) (outcome : JoinedValue) (after : List (Option Slot)) : Type 0 where
  pub old : Slot
  pub new : Slot
  pub there : slice_get slots place ≡ Some (Some old)
  pub joins : JoinsSlot old f outcome new
  pub after_is : after ≡ slice_set slots place (Some new)

-- a slot that begins in the lowest free place
pub data Begins (slots : List (Option Slot)) (now : ℕ) (key : Key) (f : FragmentValue) : JoinedValue → List (Option Slot) → Type 0 where
  no_place : position is_free slots ≡ None → Begins slots now key f (dropped reasons.Full) slots
  in_place : (place : ℕ) → position is_free slots ≡ Some place → Begins slots now key f waiting (slice_set slots place (Some (joined f (fresh key now f.delivery))))
