-- What a node keeps, whatever is done to it.
use Rattle.std.specs.Prelude.{◌≡◌, ◌≢◌, ℕ, ◌≤◌, List, [], ◌∷◌, length, Option, Some, None}
use Rattle.nbt_node.specs.declared.state.State.TheVariants.{Idle}
use Rattle.nbt_node.specs.declared.state.Slot.{Slot}
use Rattle.nbt_node.specs.Node.{NodeValue, AreDistinct, slots_most}

-- no slot has a name that is Idle
abbrev pub AreAwake : List (Option Slot) → Type 0
AreAwake [] = Unit {0}
AreAwake (None ∷ rest) = AreAwake rest
AreAwake (Some slot ∷ rest) = (slot.state ≢ Idle) × AreAwake rest

-- a node of `count` slots
pub record IsNode (count : ℕ) (node : NodeValue) : Type 0 where
  pub slots_at_most : count ≤ slots_most
  pub slots_at_least : 1 ≤ count
  pub count_is : length node.slots ≡ count
  pub apart : AreDistinct node.slots
  pub awake : AreAwake node.slots
  pub since : node.start ≤ node.last
