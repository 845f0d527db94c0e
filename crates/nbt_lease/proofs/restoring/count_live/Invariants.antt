use Rattle.std.proofs.Common.{◌≡◌, ◌≤◌, take}
use Rattle.nbt_lease.proofs.Common.{live_count}
use Rattle.nbt_lease.proofs.restoring.count_live.Given as goal

abbrev pub invariant-loop-index : goal.invariant-loop-index
invariant-loop-index l = (l.live ≤ l.index) × (l.live ≡ live_count l.now (take l.index l.rows))
