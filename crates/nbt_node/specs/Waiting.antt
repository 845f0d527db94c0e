-- When a node has something to send next, if nothing happens to it before (our profile).
use Rattle.std.specs.Prelude.{◌≡◌, ℕ, ◌<◌, ◌≤◌, Bool, true, false, ◌||◌, is_some, Option, Some, None}
use Rattle.nbt_node.specs.Node.{NodeValue}
use Rattle.nbt_node.specs.Calls.{slot_due, lookup_due}

-- a poll at this time sends a datagram
abbrev pub sends_at : NodeValue → ℕ → Bool
sends_at node now = is_some (slot_due node now) || is_some (lookup_due node now)

-- The first time at which something is so, of those that aren't before another; none, if it is so at none of them.
abbrev pub IsFirst : (is_so : ℕ → Bool) (since : ℕ) → Option ℕ → Type 0
IsFirst is_so since None = (time : ℕ) → since ≤ time → is_so time ≡ false
IsFirst is_so since (Some first) = (since ≤ first) × (is_so first ≡ true) × ((time : ℕ) → since ≤ time → time < first → is_so time ≡ false)
