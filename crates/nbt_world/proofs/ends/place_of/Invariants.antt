use Rattle.std.proofs.Common.{◌≢◌, ℕ, ◌<◌, Some}
use Rattle.nbt_world.specs.World.{addr_at}
use Rattle.nbt_world.proofs.ends.place_of.Given as goal

abbrev pub invariant-loop-index : goal.invariant-loop-index
invariant-loop-index l = (k : ℕ) → k < l.index → addr_at l.nodes k ≢ Some l.addr
