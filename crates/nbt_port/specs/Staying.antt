-- How an end that is meant to stay up goes on after turns that failed (our profile).
use Rattle.std.specs.Prelude.{◌≡◌, ◌≢◌, ℕ, ◌+◌, ◌<◌, ◌≤◌, List, length, Option, Some, None}
use Rattle.nbt_port.specs.PortCalls.{Chain}
use Rattle.nbt_port.specs.declared.fault.Fault.{Fault}
use Rattle.nbt_port.specs.declared.fault.Fault.TheVariants.{Device}
use Rattle.nbt_port.specs.declared.staying.Turned.{Turned}
use Rattle.nbt_port.specs.declared.staying.Turned.TheVariants as t
use Rattle.nbt_port.specs.Numbers.{failures_most}

-- an end, with how many of its turns have failed in a row
pub record Standing (S : Type 0) : Type 0 where
  pub here : S
  pub failed : ℕ

-- Before the last failure of a row it takes another turn, from where the one before led it, also where that one failed. A
-- turn that goes well shows something, and ends the row; one that fails is one more of the row.
pub data GoesOn {S X : Type 0} (turns : S → X → S → Type 0) (breaks : S → S → Type 0) (old : Standing S) : Option X → Standing S → Type 0 where
  goes_well : (x : X) (new : S) → old.failed < failures_most → turns old.here x new → GoesOn turns breaks old (Some x) (record { here = new; failed = 0 })
  fails : (new : S) → old.failed < failures_most → breaks old.here new → GoesOn turns breaks old None (record { here = new; failed = old.failed + 1 })

-- It takes `count` turns, of which the last `failed` failed in a row.
pub record Goes {S X : Type 0} (turns : S → X → S → Type 0) (breaks : S → S → Type 0) (count failed : ℕ) (old new : S) : Type 0 where
  pub outcomes : List (Option X)
  pub run : Chain (GoesOn turns breaks) (record { here = old; failed = 0 }) outcomes (record { here = new; failed = failed })
  pub count_is : length outcomes ≡ count

-- It takes all turns.
abbrev pub StaysUp : {S X : Type 0} → (S → X → S → Type 0) → (S → S → Type 0) → (count : ℕ) → S → S → Type 0
StaysUp turns breaks count old new = (failed : ℕ) × (failed < failures_most) × Goes turns breaks count failed old new

-- It gives up: as many turns as that failed one after the other.
abbrev pub GivesUp : {S X : Type 0} → (S → X → S → Type 0) → (S → S → Type 0) → (most : ℕ) → S → S → Type 0
GivesUp turns breaks most old new = (count : ℕ) × (count ≤ most) × Goes turns breaks count failures_most old new

-- It is cut off by another turn, after fewer than `most` through which it stayed up.
abbrev pub IsCutOff : {S X : Type 0} → (S → X → S → Type 0) → (S → S → Type 0) → (S → S → Type 0) → (most : ℕ) → S → S → Type 0
IsCutOff {S = S} turns breaks cuts most old new = (count : ℕ) × (mid : S) × (count < most) × StaysUp turns breaks count old mid × cuts mid new

-- It takes all turns, or as many as it takes until a turn is the last.
pub data StaysUntil {S X : Type 0} (turns : S → X → S → Type 0) (breaks : S → S → Type 0) (last : S → S → Type 0) (most : ℕ) (old new : S) : Type 0 where
  takes_all : StaysUp turns breaks most old new → StaysUntil turns breaks last most old new
  takes_the_last : IsCutOff turns breaks last most old new → StaysUntil turns breaks last most old new

-- It ends before that: for the device it gives up, and for any other fault a turn cuts it off.
abbrev pub EndsEarly : {S X : Type 0} → (S → X → S → Type 0) → (S → S → Type 0) → (cuts : Fault → S → S → Type 0) → (most : ℕ) → Fault → S → S → Type 0
EndsEarly turns breaks cuts most Device old new = GivesUp turns breaks most old new
EndsEarly turns breaks cuts most fault old new = IsCutOff turns breaks (cuts fault) most old new

-- what came of one turn
abbrev pub Takes : {S X : Type 0} → (S → X → S → Type 0) → (S → S → Type 0) → (last : S → S → Type 0) → (cuts : Fault → S → S → Type 0) → Turned → S → S → Type 0
Takes {X = X} turns breaks last cuts t.Well old new = (x : X) × turns old x new
Takes turns breaks last cuts t.Last old new = last old new
Takes turns breaks last cuts (t.Failed cause) old new = breaks old new
Takes turns breaks last cuts (t.CutOff fault) old new = (fault ≢ Device) × cuts fault old new
