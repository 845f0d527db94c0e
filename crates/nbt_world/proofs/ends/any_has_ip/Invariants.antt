use Rattle.std.proofs.Common.{◌≡◌, ◌≢◌, ℕ, ◌<◌, Some}
use Rattle.nbt_name.specs.declared.addr.Addr.{Addr}
use Rattle.nbt_world.specs.World.{addr_at}
use Rattle.nbt_world.proofs.ends.any_has_ip.Given as goal

abbrev pub invariant-loop-end : goal.invariant-loop-end
invariant-loop-end l = (k : ℕ) → k < l.end-index → (addr : Addr) → addr_at l.nodes k ≡ Some addr → addr.ip ≢ l.ip
